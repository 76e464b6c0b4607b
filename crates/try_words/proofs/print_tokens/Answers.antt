use Rattle.std.proofs.Common.{arith}
use Rattle.words.specs.TokenLaws.{quoted_within}
use Rattle.try_words.proofs.print_tokens.Goals as goal

pub overflow_add-rest : goal.overflow_add-rest
overflow_add-rest c =
    let w = quoted_within _ _ _ _ c.next_token.ensures _ c.in-Some.is _ _
    c.in-Quoted.is in
    omega arith
