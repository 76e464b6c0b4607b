use Rattle.std.proofs.Common.{arith, ◌∙◌, ap, ◌%◌, ◌*◌, ◌+◌, ◌-◌, ℕ, length}
use Rattle.sets.specs.Sets.{bit}
use Rattle.names.specs.PlaceLaws.{short_length}
use Rattle.words.specs.Reading.{keyword_hashes, hash_of}
use Rattle.words.proofs.may_be_keyword.Goals as goal

pub overflow_sub-last : goal.overflow_sub-last
overflow_sub-last c = omega (arith, (short_length _ c.requires).0)

pub bounds-word-last : goal.bounds-word-last
bounds-word-last c = omega (arith, (short_length _ c.requires).0)

pub overflow_mul-hash : goal.overflow_mul-hash
overflow_mul-hash c = omega (arith, (short_length _ c.requires).1)

pub overflow_add-hash : goal.overflow_add-hash
overflow_add-hash c = omega (arith, c.from.ensures, (short_length _ c.requires).1, c.type_inv.word (length c.args.word.now - 1))

pub returns : goal.returns
unfolding hash_of
returns c =
    c.member.ensures
    ∙ ap (λ (a : ℕ). bit keyword_hashes ((a + 8 * length c.args.word.now) % 64)) c.from.ensures
