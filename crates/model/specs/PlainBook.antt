-- The plain book of demand 3 (document 01, "The ten commands"): "It is fed the command and arguments of each call, nothing else."
use Rattle.std.specs.Prelude.{List, [], ◌∷◌, suc, zero, ℕ}
use Rattle.model.specs.Book.{Book}
use Rattle.model.specs.Commands.{Command, after}
use Rattle.model.specs.Questions.{first_no, questions}

-- "Of the questions below, put to itself and the arguments, the number at the first no is its answer,
unfoldable pub answer : Book → Command → ℕ
answer b k = first_no (questions b k)

-- and it stays as it is. Without one it answers 0, accepted, and only this changes"
unfoldable pub next : Book → Command → Book
next b k = elim (answer b k) [ zero ↦ after b k | suc n ↦ b ]

-- over a list of commands: the answers one by one,
unfoldable pub answers : Book → List Command → List ℕ
answers b [] = []
answers b (k ∷ ks) = answer b k ∷ answers (next b k) ks

-- and the book in the end
unfoldable pub reached : Book → List Command → Book
reached b [] = b
reached b (k ∷ ks) = reached (next b k) ks
