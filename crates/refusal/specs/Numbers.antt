-- The numbers of the questions, and the answer of a call.
use Rattle.std.specs.Prelude.{Err, Ok, Result, ℕ}
use Rattle.refusal.specs.declared.Refusal.{Refusal}
use Rattle.refusal.specs.declared.Refusal.TheVariants.{BreaksB3, BreaksB4, BreaksB5ToB9, Defined, DoesNotFit, Empty, HasVersion, Held, NinthVersion}
use Rattle.refusal.specs.declared.Refusal.TheVariants.{NoBook, NoModule, NoPlace, NoSystem, NoVersion, NotOfTheLanguage, NotSpecified, OtherVersions}
use Rattle.refusal.specs.declared.Refusal.TheVariants.{Requires, RequiresItsOwn, Specified, Standard, StandardNotListed, TooLarge, Twice}
use Rattle.refusal.specs.declared.Refusal.TheVariants.{UsableNotSpecified}

abbrev pub number : Refusal → ℕ
number TooLarge = 1
number Empty = 2
number Twice = 3
number NotSpecified = 4
number Specified = 5
number NoModule = 6
number NoSystem = 7
number Defined = 8
number OtherVersions = 9
number NoVersion = 10
number HasVersion = 11
number NinthVersion = 12
number RequiresItsOwn = 13
number StandardNotListed = 14
number Standard = 15
number Requires = 16
number UsableNotSpecified = 17
number Held = 18
number BreaksB3 = 19
number BreaksB4 = 20
number BreaksB5ToB9 = 21
number DoesNotFit = 22
number NotOfTheLanguage = 23
number NoPlace = 24
number NoBook = 25

-- "The first no gives the number; without one the call is accepted": 0 where it is accepted
abbrev pub code : {A : Type 0} → Result A Refusal → ℕ
code (Ok x) = 0
code (Err e) = number e

-- what a call gave back: 0 where it is refused
abbrev pub found : Result ℕ Refusal → ℕ
found (Ok x) = x
found (Err e) = 0
