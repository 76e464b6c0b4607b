use Rattle.std.proofs.Common.{rules, refl, length, ◌≡◌}
use Rattle.words.specs.WordLaws.{word_ends}
use Rattle.read_tokens.specs.TokenLaws.{name_yes}
use Rattle.read_tokens.proofs.reader.Reader.name.Goals as goal

pub invariant_of-self : goal.invariant_of-self
invariant_of-self c =
    let e = word_ends _ _ _ c.next_start.ensures _ c.in_ok-start.was _ c.word-word.ensures in record { inside = e.1 }

pub returns : goal.returns
returns c =
    let n : length c.word-word.result.now ≡ 0 → ⊥ = λ e. search rules in
    (name_yes _ _ _ c.next_start.ensures _ c.in_ok-start.was _ c.word-word.ensures n _ c.is_name_word.ensures c.if-not-is_name_word.false, refl)
