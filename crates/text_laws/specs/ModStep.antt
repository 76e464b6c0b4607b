-- A module under other numbers goes into the book: its command is accepted.
use Rattle.std.specs.Prelude.{false, true, List, ◌∷◌, map, ◌≡◌, refl}
use Rattle.std.proofs.Math.Logic.{inl, inr}
use Rattle.std.proofs.Math.Option.{Option, none, some}
use Rattle.std.proofs.Common.{◌∙◌}
use Rattle.std.proofs.Math.Path.{ap, fun_ext, sym}
use Prim.Native.Nat.{ℕ}
use Rattle.model.specs.Book.{Book, Modules, Specs, Systems, has_version, implementation, implementations, is_defined, is_module}
use Rattle.model.specs.Book.{is_system, specified, standard, versions}
use Rattle.model.specs.Commands.{ADD-MOD, Command, after}
use Rattle.model.specs.Lists.{beside, elem, every, once}
use Rattle.model.specs.Maps.{Map, is_some, option_map}
use Rattle.model.specs.PlainBook.{answer}
use Rattle.model.specs.Questions.{each_below, exactly, in_limits, questions}
use Rattle.sets.specs.TestLaws.{<?_in, all_in, and_in, bool?, iff_in, not_in, or-false}
use Rattle.sets.specs.Tests.{◌<?◌, ~◌}
use Rattle.text_laws.specs.Listed.{Lists, every_of, firsts-map, lists_non_empty, new_beside, new_beside_no, new_each}
use Rattle.text_laws.specs.Listed.{new_once, new_small, seconds-map}
use Rattle.text_laws.specs.Renamed.{Renumbering, UsedI, UsedV, implementation_of, version_of}
use Rattle.text_laws.specs.Renumbered.{has_version', new_modules, new_specs, only, only_out, put_only, renumber_module}
use Rattle.text_laws.specs.Renumbered.{specified'}
use Rattle.text_laws.specs.TextLaws.{non_empty-map}
use Rattle.model_laws.specs.Good.{Good}
use Rattle.model_laws.specs.MapLaws.{and_then_in, is_some_no, is_some_out}
use Rattle.model_laws.specs.Meaning.{no_no}
use Rattle.model_laws.specs.Notions.{none_left, yes_all}

-- a list of the versions of a module, and the implementation of each
pub record ModLists (M : Modules) (c : ℕ) : Type 0 where
  pub vers : List ℕ
  pub impl : ℕ → ℕ
  pub vers_all : Lists vers (λ v. is_some (implementation M c v))
  pub impl_is : (v i : ℕ) → implementation M c v ≡ some i → impl v ≡ i

pub is_undefined_lem : (M : Modules) (Y : Systems) (c : ℕ) → is_module M c ≡ false → is_system Y c ≡ false → (~ is_defined M Y c) ≡ true
unfolding is_defined
is_undefined_lem M Y c m s = not_in _ (or-false _ _ m ∙ s)

module _ (b : Book) (g : Good b) (re : Renumbering b.specs b.modules) where
  abbrev S : Specs
  S = b.specs

  abbrev M : Modules
  M = b.modules

  abbrev S' : Specs
  S' = new_specs b re

  abbrev M' : Modules
  M' = new_modules b re

  abbrev old_c : ℕ → ℕ
  old_c = re.old_c

  abbrev new_c : ℕ → ℕ
  new_c = re.new_c

  abbrev old_v : ℕ → ℕ
  old_v = re.old_v

  abbrev new_v : ℕ → ℕ
  new_v = re.new_v

  abbrev new_i : ℕ → ℕ
  new_i = re.new_i

  -- the specs are in, and the modules at the new numbers of l
  unfoldable pub with_modules : List ℕ → Book
  with_modules l = record { specs = S'; modules = only l M'; systems = λ c. none }

  unfoldable pub mod_command : (c : ℕ) → ModLists M c → Command
  mod_command c ls = ADD-MOD (new_c c) (map (λ v. (new_v v, new_i (ls.impl v))) ls.vers)

  module_new : (c : ℕ) (i : Map ℕ) → specified S c ≡ true → M c ≡ some i → M' (new_c c) ≡ some (renumber_module old_v new_i i)
  unfolding new_modules option_map
  module_new c i there e = ap (λ (k : ℕ). option_map (renumber_module old_v new_i) (M k)) (re.of_c.back c there)
      ∙ ap (option_map (renumber_module old_v new_i)) e

  module _ (c : ℕ) (ls : ModLists M c) (l : List ℕ) (there : is_module M c ≡ true) (fresh : elem (new_c c) l ≡ false) where
    abbrev lv : List ℕ
    lv = ls.vers

    abbrev im : ℕ → ℕ
    im = ls.impl

    kv : Lists lv (λ v. is_some (implementation M c v))
    kv = ls.vers_all

    ki : (v i : ℕ) → implementation M c v ≡ some i → im v ≡ i
    ki = ls.impl_is

    mod_spec : specified S c ≡ true
    mod_spec = g.b2.mod_spec c there

    mod_v : (v : ℕ) → is_some (implementation M c v) ≡ true → UsedV S v
    mod_v v e = version_of c (sym (g.b2.mod_covers c v there) ∙ e)

    mod_i : (v : ℕ) → is_some (implementation M c v) ≡ true → UsedI M (im v)
    mod_i v e = let q = is_some_out _ e in implementation_of c v (q.1 ∙ ap some (sym (ki v q.0 q.1)))

    back_c : old_c (new_c c) ≡ c
    back_c = re.of_c.back c mod_spec

    pub mod_yes : answer (with_modules l) (mod_command c ls) ≡ 0
    unfolding answer questions mod_command with_modules in_limits each_below is_module is_system is_some exactly
    mod_yes = no_no
        (yes_all (and_in _ _ (<?_in _ _ (re.of_c.small c mod_spec)) (and_in _ _
        (ap (every (λ x. x <? versions)) (firsts-map new_v _ lv) ∙ new_small re.of_v lv kv mod_v)
        (ap (every (λ x. x <? implementations)) (seconds-map new_v _ lv)
        ∙ every_of _ (λ v. new_i (im v)) lv (λ v e. <?_in _ _ (re.of_i.small (im v) (mod_i v (sym (kv.each v) ∙ e)))))))
        (yes_all (non_empty-map _ lv (lists_non_empty lv _ kv (standard S c) (g.b2.mod_covers c (standard S c) there
        ∙ g.b1.std_in c mod_spec)))
        (yes_all (ap once (firsts-map new_v _ lv) ∙ new_once re.of_v lv kv mod_v)
        (yes_all (specified' b re (new_c c) ∙ ap (specified S) back_c ∙ mod_spec)
        (yes_all (is_undefined_lem (only l M') (λ c. none) (new_c c) (ap is_some (only_out l M' (new_c c) fresh)) refl)
        (yes_all (all_in _ _ (λ v k. iff_in _ _ (ap (elem v) (firsts-map new_v _ lv)
        ∙ new_each re.of_v lv kv mod_v v ∙ g.b2.mod_covers c (old_v v) there
        ∙ ap (λ (z : ℕ). has_version S z (old_v v)) (sym back_c) ∙ sym (has_version' b re (new_c c) v))))
        none_left))))))

    impl_new : (i : Map ℕ) → M c ≡ some i → (v : ℕ) → beside (map (λ v. (new_v v, new_i (im v))) lv) v ≡ option_map new_i (i (old_v v))
    unfolding option_map
    impl_new i e v =
        let at : implementation M c (old_v v) ≡ i (old_v v) = unfold implementation in and_then_in _ _ i e in
        elim (bool? (is_some (implementation M c (old_v v)))) [
          | inl h ↦ (let q = is_some_out _ h in
              new_beside re.of_v lv kv mod_v (λ v. new_i (im v)) v h
              ∙ ap (λ (z : ℕ). some (new_i z)) (ki (old_v v) q.0 q.1) ∙ sym (ap (option_map new_i) (sym at ∙ q.1)))
          | inr h ↦ new_beside_no re.of_v lv kv mod_v (λ v. new_i (im v)) v h ∙ sym (ap (option_map new_i) (sym at ∙ is_some_no _ h))
        ]

    pub mod_after_lem : after (with_modules l) (mod_command c ls) ≡ with_modules (new_c c ∷ l)
    unfolding after mod_command with_modules renumber_module
    mod_after_lem =
        let q = is_some_out (M c) (unfold is_module in there) in
        let y : Map ℕ = beside (map (λ v. (new_v v, new_i (im v))) lv) in
        let z : y ≡ renumber_module old_v new_i q.0 = fun_ext (λ v. impl_new q.0 q.1 v) in
        let w : M' (new_c c) ≡ some y = module_new c q.0 mod_spec q.1 ∙ ap {A = Map ℕ} {B = Option (Map ℕ)} some (sym z) in
        λ i. record { specs = S'; modules = put_only l M' (new_c c) y w i; systems = λ c. none }
