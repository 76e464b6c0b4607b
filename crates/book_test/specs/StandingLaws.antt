-- Laws of loops, of sets and of a Book that no proof asks for at present. They stand here so that the crates below need not be proved again.
use Rattle.std.specs.Prelude.{Bool, false, true, List, ◌≡◌, ◌<◌, ◌≤◌, ℕ}
use Rattle.std.proofs.Common.{◌∙◌, le_antisymm}
use Rattle.std.proofs.Math.Path.{ap, sym}
use Rattle.book.specs.Layout.{kind_at}
use Rattle.book.specs.Plain.{kind_is, systems_of}
use Rattle.book.specs.ReadLaws.{is_system_plain}
use Rattle.model.specs.Book.{is_system}
use Rattle.sets.specs.Sets.{Set, disjoint}
use Rattle.sets.specs.TestLaws.{=?-out, all_width, and_r, any_in, clash, imp_in}
use Rattle.sets.specs.Tests.{any}

-- a loop that tests f at i as r, and returns true at the first that passes
pub any_stop : (n i : ℕ) (f : ℕ → Bool) {r : Bool} → i < n → r ≡ f i → r ≡ true → true ≡ any n f
any_stop n i f {r} l e t = sym (any_in n f i l (sym e ∙ t))

pub any_end : (n i : ℕ) (f : ℕ → Bool) → i ≤ n → n ≤ i → any i f ≡ false → false ≡ any n f
any_end n i f h k a = sym a ∙ ap (λ (m : ℕ). any m f) (le_antisymm h k)

-- a set whose numbers are below k is apart from another at every width from k on as it is at k
pub disjoint_width : (k n : ℕ) (a b : Set) → k ≤ n → ((f : ℕ) → k ≤ f → a f ≡ false) → disjoint n a b ≡ disjoint k a b
unfolding disjoint
disjoint_width k n a b l low = all_width k n _ l (λ f h. imp_in _ _ (λ t. clash t (low f h)))

pub kind_of_system : (s n : List ℕ) (c : ℕ) → is_system (systems_of s n) c ≡ true → kind_at n c ≡ 3
unfolding kind_is
kind_of_system s n c t = =?-out _ _ (and_r _ _ (sym (is_system_plain s n c) ∙ t))
