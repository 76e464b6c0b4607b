-- What is refused has another answer than what is accepted.
use Rattle.std.specs.Prelude.{◌≢◌}
use Rattle.std.proofs.Common.{arith}
use Rattle.refusal.specs.Numbers.{number}
use Rattle.refusal.specs.declared.Refusal.{Refusal}
use Rattle.refusal.specs.declared.Refusal.TheVariants.{BreaksB3, BreaksB4, BreaksB5ToB9, Defined, DoesNotFit, Empty, HasVersion, Held, NinthVersion}
use Rattle.refusal.specs.declared.Refusal.TheVariants.{NoBook, NoModule, NoPlace, NoSystem, NoVersion, NotOfTheLanguage, NotSpecified, OtherVersions}
use Rattle.refusal.specs.declared.Refusal.TheVariants.{Requires, RequiresItsOwn, Specified, Standard, StandardNotListed, TooLarge, Twice}
use Rattle.refusal.specs.declared.Refusal.TheVariants.{UsableNotSpecified}

-- no question has the number 0
pub no_number_0 : (e : Refusal) → number e ≢ 0
no_number_0 TooLarge z = omega (arith, z)
no_number_0 Empty z = omega (arith, z)
no_number_0 Twice z = omega (arith, z)
no_number_0 NotSpecified z = omega (arith, z)
no_number_0 Specified z = omega (arith, z)
no_number_0 NoModule z = omega (arith, z)
no_number_0 NoSystem z = omega (arith, z)
no_number_0 Defined z = omega (arith, z)
no_number_0 OtherVersions z = omega (arith, z)
no_number_0 NoVersion z = omega (arith, z)
no_number_0 HasVersion z = omega (arith, z)
no_number_0 NinthVersion z = omega (arith, z)
no_number_0 RequiresItsOwn z = omega (arith, z)
no_number_0 StandardNotListed z = omega (arith, z)
no_number_0 Standard z = omega (arith, z)
no_number_0 Requires z = omega (arith, z)
no_number_0 UsableNotSpecified z = omega (arith, z)
no_number_0 Held z = omega (arith, z)
no_number_0 BreaksB3 z = omega (arith, z)
no_number_0 BreaksB4 z = omega (arith, z)
no_number_0 BreaksB5ToB9 z = omega (arith, z)
no_number_0 DoesNotFit z = omega (arith, z)
no_number_0 NotOfTheLanguage z = omega (arith, z)
no_number_0 NoPlace z = omega (arith, z)
no_number_0 NoBook z = omega (arith, z)
