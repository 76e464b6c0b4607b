-- Laws of the lines: what each writer's calls write, one after the other, is the line.
use Rattle.std.specs.Prelude.{Bool, false, true, ◌≡◌, refl, ℕ}
use mathlib.Core.List.{List, ◌++◌, map, map-map}
use Rattle.std.proofs.Math.Logic.{inl, inr}
use Rattle.std.proofs.Common.{◌∙◌}
use Rattle.std.proofs.Math.Path.{ap, ap₂, fun_ext, sym}
use Rattle.book.specs.Plain.{modules_of, specs_of, systems_of}
use Rattle.book.specs.ReadLaws.{composition_plain, has_version_plain, implementation_plain, is_module_plain, is_system_plain}
use Rattle.model.specs.Book.{Book, components, composed, facilities, has_version, implementation, is_module, is_system, provides, usable, versions}
use Rattle.model.specs.Maps.{is_some}
use Rattle.names.specs.Stored.{Rows, table_of, tables_of}
use Rattle.book_rules.specs.RuleLaws.{composed_version}
use Rattle.sets.specs.Sets.{Set, bit}
use Rattle.sets.specs.SetLaws.{bit_zero}
use Rattle.sets.specs.TestLaws.{and-false, and-true, bool?, if-false, if-true}
use Rattle.text.specs.Bytes.{Text, bytes}
use Rattle.text.specs.Tables.{Table, name_at}
use Rattle.text.specs.Written.{by_name, commas, facility_names, line, mod_of, parted, semicolons, spec_of, sys_of}
use Rattle.model_laws.specs.MapLaws.{option_map-some}
use Rattle.write_bytes.specs.ByName.{listed}
use Rattle.write_line.specs.Lines.{ending, if_asked}
use Rattle.write_version.specs.Pieces.{mod_version, names_of, spec_version, sys_version}

-- ---- the versions

pub asked : (b : Bool) (s : Set) {t : Set} → b ≡ true → t ≡ s → t ≡ if_asked b s
unfolding if_asked
asked b s h e = e ∙ fun_ext (λ x. sym (and-true _ _ h))

pub not_asked : (b : Bool) (s : Set) → b ≡ false → bit 0 ≡ if_asked b s
unfolding if_asked
not_asked b s h = fun_ext (λ x. bit_zero x ∙ sym (and-false _ _ h))

module _ (s n : List ℕ) (c : ℕ) where
  module_versions : if_asked (is_module (modules_of n) c) (has_version (specs_of s n) c) ≡ (λ v. is_some (implementation (modules_of n) c v))
  unfolding if_asked
  module_versions = fun_ext (λ v. elim (bool? (is_module (modules_of n) c)) [
    | inl q ↦ and-true _ _ q
        ∙ sym (ap is_some (implementation_plain s n c v ∙ if-true _ _ _ (sym (is_module_plain s n c) ∙ q)) ∙ option_map-some _ _
        ∙ sym (has_version_plain s n c v))
    | inr q ↦ and-false _ _ q
        ∙ sym (ap is_some (implementation_plain s n c v ∙ if-false _ _ _ (sym (is_module_plain s n c) ∙ q)) ∙ unfold is_some in refl)
  ])

  system_versions : if_asked (is_system (systems_of s n) c) (has_version (specs_of s n) c) ≡ composed (systems_of s n) c
  unfolding if_asked composed
  system_versions = fun_ext (λ v. elim (bool? (is_system (systems_of s n) c)) [
    | inl q ↦ and-true _ _ q ∙ sym (composed_version s n c v q)
    | inr q ↦ and-false _ _ q
        ∙ sym (ap is_some (composition_plain s n c v ∙ if-false _ _ _ (sym (is_system_plain s n c) ∙ q)) ∙ unfold is_some in refl)
  ])

  module _ {b : Bool} {t : Set} where
    pub versions_of_module : b ≡ is_module (modules_of n) c → t ≡ if_asked b (has_version (specs_of s n) c)
        → t ≡ (λ v. is_some (implementation (modules_of n) c v))
    versions_of_module d f = f ∙ ap (λ (a : Bool). if_asked a (has_version (specs_of s n) c)) d ∙ module_versions

    pub versions_of_system : b ≡ is_system (systems_of s n) c → t ≡ if_asked b (has_version (specs_of s n) c)
        → t ≡ composed (systems_of s n) c
    versions_of_system d f = f ∙ ap (λ (a : Bool). if_asked a (has_version (specs_of s n) c)) d ∙ system_versions

-- ---- the lines

-- each version of the set is a piece
endings : {A : Type 0} (piece : A → Text) (of : ℕ → A) (t : Table) {q r : Set} → q ≡ r
    → ending (λ v. piece (of v)) t q ≡ bytes "; " ++ (semicolons (map piece (map of (by_name t versions r))) ++ bytes " end\n")
unfolding ending listed semicolons
endings piece of t {r = r} e =
    ap (ending (λ v. piece (of v)) t) e
    ∙ ap (λ (l : List Text). bytes "; " ++ (parted (bytes "; ") l ++ bytes " end\n")) (sym (map-map piece of (by_name t versions r)))

module _ (b : Book) (cs vs fs is : Rows) (c : ℕ) where
  pub spec_line_is : {w : Text} {s q : Set} → w ≡ name_at (table_of components cs) c → s ≡ provides b.specs c → q ≡ has_version b.specs c
      → bytes "spec " ++ (w ++ (bytes " provides " ++ (names_of (table_of facilities fs) facilities s
      ++ ending (spec_version b (tables_of cs vs fs is) c) (table_of versions vs) q)))
      ≡ line (spec_of b (tables_of cs vs fs is) c)
  unfolding line spec_of tables_of commas facility_names listed names_of spec_version
  spec_line_is e f d =
      ap₂ (λ (x y : Text). bytes "spec " ++ (x ++ (bytes " provides " ++ y))) e
      (ap₂ (λ (x y : Text). x ++ y) (ap (names_of (table_of facilities fs) facilities) f) (endings _ _ _ d))

  pub mod_line_is : {w : Text} {q : Set} → w ≡ name_at (table_of components cs) c → q ≡ (λ v. is_some (implementation b.modules c v))
      → bytes "mod " ++ (w ++ ending (mod_version b (tables_of cs vs fs is) c) (table_of versions vs) q)
      ≡ line (mod_of b (tables_of cs vs fs is) c)
  unfolding line mod_of tables_of mod_version
  mod_line_is e d = ap₂ (λ (x y : Text). bytes "mod " ++ (x ++ y)) e (endings _ _ _ d)

  pub sys_line_is : {w : Text} {s q : Set} → w ≡ name_at (table_of components cs) c → s ≡ usable b.systems c → q ≡ composed b.systems c
      → bytes "sys " ++ (w ++ (bytes " use " ++ (names_of (table_of components cs) components s
      ++ ending (sys_version b (tables_of cs vs fs is) c) (table_of versions vs) q)))
      ≡ line (sys_of b (tables_of cs vs fs is) c)
  unfolding line sys_of tables_of commas listed names_of sys_version
  sys_line_is e f d =
      ap₂ (λ (x y : Text). bytes "sys " ++ (x ++ (bytes " use " ++ y))) e
      (ap₂ (λ (x y : Text). x ++ y) (ap (names_of (table_of components cs) components) f) (endings _ _ _ d))
