-- A spec under other numbers goes into the book: its command is accepted.
use Rattle.std.specs.Prelude.{false, true, ◌≡◌, ◌≤◌, ℕ}
use mathlib.Core.List.{List, ◌∷◌, map}
use Rattle.std.proofs.Math.Logic.{inl, inr}
use Rattle.std.proofs.Math.Option.{Option, none, some}
use Rattle.std.proofs.Common.{◌∙◌, subst, le_trans}
use Rattle.std.proofs.Math.Path.{ap, fun_ext, sym}
use Rattle.model.specs.Book.{Book, Spec, Specs, facilities, has_version, provides, requires, specified, standard, versions}
use Rattle.model.specs.Commands.{ADD-SPEC, Command, after}
use Rattle.model.specs.Lists.{beside, elem, every, once, set_of}
use Rattle.model.specs.Maps.{has, is_some, option_map}
use Rattle.model.specs.PlainBook.{answer}
use Rattle.model.specs.Questions.{each_below, free, in_limits, questions}
use Rattle.sets.specs.Sets.{Set}
use Rattle.sets.specs.TestLaws.{<?_in, and_in, bool?, not_in, ≤?_in}
use Rattle.sets.specs.Tests.{◌<?◌}
use Rattle.text_laws.specs.Listed.{Lists, every_of, firsts-map, lists_length, lists_non_empty, new_beside, new_beside_no}
use Rattle.text_laws.specs.Listed.{new_each, new_once, new_small, seconds-map}
use Rattle.text_laws.specs.Renamed.{Renumbering, UsedF, UsedV, provided_by, required_by, version_of}
use Rattle.text_laws.specs.Renumbered.{new_specs, only, only_out, put_only, renumber_spec}
use Rattle.text_laws.specs.TextLaws.{length-map, non_empty-map}
use Rattle.model_laws.specs.Alike.{has_version_at, provides_at_lem, requires_at_lem, standard_at_lem}
use Rattle.model_laws.specs.Good.{Good}
use Rattle.model_laws.specs.MapLaws.{is_some_no, is_some_out}
use Rattle.model_laws.specs.Meaning.{no_no}
use Rattle.model_laws.specs.Notions.{none_left, yes_all}

-- lists of what a spec provides, of its versions, and of what each requires
pub record SpecLists (S : Specs) (c : ℕ) : Type 0 where
  pub facs : List ℕ
  pub vers : List ℕ
  pub reqs : ℕ → List ℕ
  pub facs_all : Lists facs (provides S c)
  pub vers_all : Lists vers (has_version S c)
  pub reqs_all : (v : ℕ) → Lists (reqs v) (requires S c v)

module _ (b : Book) (g : Good b) (re : Renumbering b.specs b.modules) where
  abbrev S : Specs
  S = b.specs

  abbrev S' : Specs
  S' = new_specs b re

  abbrev new_c : ℕ → ℕ
  new_c = re.new_c

  abbrev old_v : ℕ → ℕ
  old_v = re.old_v

  abbrev new_v : ℕ → ℕ
  new_v = re.new_v

  abbrev old_f : ℕ → ℕ
  old_f = re.old_f

  abbrev new_f : ℕ → ℕ
  new_f = re.new_f

  -- the specs at the new numbers of l are in
  unfoldable pub with_specs : List ℕ → Book
  with_specs l = record { specs = only l S'; modules = λ c. none; systems = λ c. none }

  unfoldable pub spec_command : (c : ℕ) → SpecLists S c → Command
  spec_command c ls =
      ADD-SPEC (new_c c) (map new_f ls.facs) (map (λ v. (new_v v, map new_f (ls.reqs v))) ls.vers) (new_v (standard S c))

  spec_new : (c : ℕ) (x : Spec) → specified S c ≡ true → S c ≡ some x → S' (new_c c) ≡ some (renumber_spec old_v old_f new_v x)
  unfolding new_specs option_map
  spec_new c x there e = ap (λ (k : ℕ). option_map (renumber_spec old_v old_f new_v) (S k)) (re.of_c.back c there)
      ∙ ap (option_map (renumber_spec old_v old_f new_v)) e

  module _ (c : ℕ) (ls : SpecLists S c) (l : List ℕ) (there : specified S c ≡ true) (fresh : elem (new_c c) l ≡ false) where
    abbrev lp : List ℕ
    lp = ls.facs

    abbrev lv : List ℕ
    lv = ls.vers

    abbrev lq : ℕ → List ℕ
    lq = ls.reqs

    kp : Lists lp (provides S c)
    kp = ls.facs_all

    kv : Lists lv (has_version S c)
    kv = ls.vers_all

    kq : (v : ℕ) → Lists (lq v) (requires S c v)
    kq = ls.reqs_all

    used_p : (f : ℕ) → provides S c f ≡ true → UsedF S f
    used_p f e = provided_by c e

    used_v : (v : ℕ) → has_version S c v ≡ true → UsedV S v
    used_v v e = version_of c e

    used_q : (v f : ℕ) → requires S c v f ≡ true → UsedF S f
    used_q v f e = required_by c v e

    std_back : old_v (new_v (standard S c)) ≡ standard S c
    std_back = re.of_v.back _ (version_of c (g.b1.std_in c there))

    spec_small : in_limits (spec_command c ls) ≡ true
    unfolding in_limits spec_command each_below
    spec_small =
        and_in _ _ (<?_in _ _ (re.of_c.small c there))
        (and_in _ _ (new_small re.of_f lp kp used_p)
        (and_in _ _ (ap (every (λ x. x <? versions)) (firsts-map new_v _ lv) ∙ new_small re.of_v lv kv used_v)
        (and_in _ _ (ap (every (every (λ x. x <? facilities))) (seconds-map new_v _ lv)
        ∙ every_of _ _ lv (λ v e. new_small re.of_f (lq v) (kq v) (used_q v)))
        (<?_in _ _ (re.of_v.small _ (version_of c (g.b1.std_in c there)))))))

    spec_free : every (free (set_of (map new_f lp))) (map (λ v. map new_f (lq v)) lv) ≡ true
    unfolding free set_of
    spec_free = every_of _ _ lv (λ v e. every_of _ new_f (lq v) (λ f q. not_in _
        (let r = sym ((kq v).each f) ∙ q in
        new_each re.of_f lp kp used_p (new_f f) ∙ ap (provides S c) (re.of_f.back f (used_q v f r)) ∙ g.b1.apart c v f r)))

    pub spec_yes : answer (with_specs l) (spec_command c ls) ≡ 0
    unfolding answer questions spec_command with_specs specified is_some
    spec_yes = no_no
        (yes_all spec_small
        (yes_all (non_empty-map _ lv (lists_non_empty lv _ kv _ (g.b1.std_in c there)))
        (yes_all (ap once (firsts-map new_v _ lv) ∙ new_once re.of_v lv kv used_v)
        (yes_all (not_in _ (ap is_some (only_out l S' (new_c c) fresh)))
        (yes_all (≤?_in _ _ (subst (λ (n : ℕ). n ≤ 8) (sym (length-map _ lv))
        (le_trans (lists_length versions lv _ kv (λ v e. g.spec_limits.version< c v e)) (g.b1.few c))))
        (yes_all (ap (every (free (set_of (map new_f lp)))) (seconds-map new_v _ lv) ∙ spec_free)
        (yes_all (ap (elem (new_v (standard S c))) (firsts-map new_v _ lv)
        ∙ new_each re.of_v lv kv used_v (new_v (standard S c)) ∙ ap (has_version S c) std_back ∙ g.b1.std_in c there)
        none_left)))))))

    req_new : (x : Spec) → S c ≡ some x → (v : ℕ)
        → option_map set_of (beside (map (λ v. (new_v v, map new_f (lq v))) lv) v) ≡ option_map (λ q f. q (old_f f)) (x.req (old_v v))
    unfolding option_map set_of has
    req_new x e v =
        elim (bool? (has_version S c (old_v v))) [
          | inl h ↦ (let q = is_some_out _ (sym (has_version_at S c x e (old_v v)) ∙ h) in
              ap (option_map set_of) (new_beside re.of_v lv kv used_v (λ v. map new_f (lq v)) v h)
              ∙ ap some (fun_ext (λ f. new_each re.of_f (lq (old_v v)) (kq (old_v v)) (used_q (old_v v)) f
              ∙ requires_at_lem S c x e (old_v v) (old_f f) ∙ ap (λ (o : Option Set). has o (λ r. r (old_f f))) q.1))
              ∙ sym (ap (option_map (λ q f. q (old_f f))) q.1))
          | inr h ↦ ap (option_map set_of) (new_beside_no re.of_v lv kv used_v (λ v. map new_f (lq v)) v h)
              ∙ sym (ap (option_map (λ q f. q (old_f f))) (is_some_no _ (sym (has_version_at S c x e (old_v v)) ∙ h)))
        ]

    pub spec_after_lem : after (with_specs l) (spec_command c ls) ≡ with_specs (new_c c ∷ l)
    unfolding after spec_command with_specs renumber_spec set_of
    spec_after_lem =
        let q = is_some_out (S c) (unfold specified in there) in
        let x = q.0 in let e = q.1 in
        let y : Spec = record {
          prov = set_of (map new_f lp);
          req = λ v. option_map set_of (beside (map (λ v. (new_v v, map new_f (lq v))) lv) v);
          std = new_v (standard S c);
        } in
        let z : y ≡ renumber_spec old_v old_f new_v x = λ i. record {
          prov = λ f. (new_each re.of_f lp kp used_p f ∙ provides_at_lem S c x e (old_f f)) i;
          req = λ v. req_new x e v i;
          std = new_v (standard_at_lem S c x e i);
        } in
        let w : S' (new_c c) ≡ some y = spec_new c x there e ∙ ap {A = Spec} {B = Option Spec} some (sym z) in
        λ i. record { specs = put_only l S' (new_c c) y w i; modules = λ c. none; systems = λ c. none }
