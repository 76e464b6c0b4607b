use Rattle.std.proofs.Common.{rules, length, ◌≡◌}
use Rattle.words.specs.TokenLaws.{short_in}
use Rattle.read_tokens.specs.TokenLaws.{key_yes}
use Rattle.read_tokens.proofs.reader.Reader.key_end.Goals as goal

pub is_keyword-requires-clause-word_value : goal.is_keyword-requires-clause-word_value
is_keyword-requires-clause-word_value c = search (rules, short_in)

pub returns : goal.returns
returns c =
    let n : length c.word-word.result.now ≡ 0 → ⊥ = λ e. search rules in
    key_yes _ _ _ c.next_start.ensures _ c.in_ok-start.was _ c.word-word.ensures n _ _ c.number.ensures.number _ c.is_keyword.ensures
    c.if-not-is_keyword.false
