-- What a specified component is, and the number that stands for it.
use Rattle.std.specs.Prelude.{List, None, Option, Some, ℕ}
use Rattle.book.specs.declared.Kind.{Kind}
use Rattle.book.specs.declared.Kind.TheVariants.{Module, System, Undefined}
use Rattle.book.specs.Plain.{kind_is, specified_at}
use Rattle.sets.specs.Tests.{if?◌then◌else◌}

-- what the component c is
unfoldable pub kind_of : List ℕ → ℕ → Option Kind
kind_of n c = if? specified_at n c then Some (if? kind_is n 2 c then Module else (if? kind_is n 3 c then System else Undefined)) else None

-- the number of a kind: 0 where a component is not specified
abbrev pub number_of : Option Kind → ℕ
number_of None = 0
number_of (Some Undefined) = 1
number_of (Some Module) = 2
number_of (Some System) = 3
