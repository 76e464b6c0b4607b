-- The plain book's answer to an adding command, and what it holds afterwards, depend on the command's lists only through what is
-- gathered of them.
use Rattle.std.specs.Prelude.{Bool, List, [], ◌∷◌, map, ◌≡◌, ◌<◌, ℕ, length}
use Rattle.std.proofs.Math.Bool.{false, true}
use Rattle.std.proofs.Math.Option.{Option, none, some}
use Rattle.std.proofs.Common.{◌∙◌, arith}
use Rattle.std.proofs.Math.Path.{ap, ap₂, fun_ext, refl, sym}
use Rattle.book.specs.Changes.{with_module, with_modvar, with_spec, with_system, with_sysvar}
use Rattle.model.specs.Book.{Book, components, facilities, has_version, specified, standard, versions}
use Rattle.model.specs.Commands.{ADD-MOD, ADD-MODVAR, ADD-SPEC, ADD-SYS, ADD-SYSVAR, Members, after, stored}
use Rattle.model.specs.Lists.{beside, elem, every, firsts, non_empty, once, seconds, set_of}
use Rattle.model.specs.Maps.{Map, if_there, option_map, or_else, put}
use Rattle.model.specs.PlainBook.{answer}
use Rattle.model.specs.Questions.{Question, each_below, exactly, first_no, free, in_limits, member_below, questions}
use Rattle.model.specs.Rules.{B3, B4, B5_to_B9}
use Rattle.command_lists.specs.Answers.{mod_after, mod_answer, modvar_answer, spec_after, spec_answer, stores, sys_after, sys_answer, sysvar_after, sysvar_answer}
use Rattle.command_lists.specs.CompositionLaws.{and_yes, every-always, map-itself, member_below_lem}
use Rattle.command_lists.specs.Gathered.{Gathered, gather, listed, nothing}
use Rattle.command_lists.specs.GatheredLaws.{entry_below, gathered_empty, gathered_given, gathered_large, gathered_listed, gathered_twice}
use Rattle.command_lists.specs.Said.{alone, always, compositions_from, compositions_of, is_implementation, is_version_or_none, itself, members_of, members_once, numbers_of, sets_of, usable_of}
use Rattle.sets.specs.Sets.{Set, disjoint, subset}
use Rattle.sets.specs.TestLaws.{<?_out, =?-not, =?-same, all_cong, all_in, all_out, and_in, and_l, and_r, and_swap, any_cong, any_in, any_out, clash, count_none, count_strict}
use Rattle.sets.specs.TestLaws.{fails, if-false, if-true, iff→≡, imp_in, imp_out, not_in, not_out, or_l, or_r}
use Rattle.sets.specs.Tests.{◌&◌, ◌<?◌, ◌=?◌, ◌or◌, ◌⇔◌, ◌≤?◌, all, any, count, if?◌then◌else◌, ~◌}
use Rattle.model_laws.specs.Accepted.{below_elem, length-firsts}
use Rattle.model_laws.specs.ListLaws.{beside_elem, beside_second, count_one_more, every-elem, every_listed}
use Rattle.model_laws.specs.MapLaws.{if_there_cong, if_there_in, if_there_out, is_some_in}

-- two lists of questions that part only where an earlier answer is no
first_same : (n : ℕ) (a b : Bool) (xs ys : List Question) → a ≡ b → (a ≡ true → first_no xs ≡ first_no ys) → first_no ((n, a) ∷ xs) ≡ first_no ((n, b) ∷ ys)
unfolding first_no if?◌then◌else◌
first_same n true b xs ys e h = rw (← e) (h refl)
first_same n false b xs ys e h = rw (← e) refl

not-not : (b : Bool) → (~ (~ b)) ≡ b
unfolding ~◌
not-not true = refl
not-not false = refl

-- ---- limits of a list

and_four : (a b c d : Bool) → ((a & b) & (c & d)) ≡ ((a & c) & (b & d))
unfolding ◌&◌
and_four true true true d = refl
and_four true true false d = refl
and_four true false true d = refl
and_four true false false d = refl
and_four false b c d = refl

entries_below : {A B : Type 0} (n : ℕ) (good full single : A → Bool) (what : A → B) (xs : List (ℕ × A))
    → every (entry_below n good full single what) xs ≡ (each_below n (firsts xs) & every good (seconds xs))
unfolding every entry_below each_below firsts seconds
entries_below n good full single what [] = unfold ◌&◌ in refl
entries_below n good full single what (x ∷ xs) =
    ap (λ (z : Bool). (x.0 <? n & good x.1) & z) (entries_below n good full single what xs) ∙ and_four _ _ _ _

-- ---- numbers of a list

count-once : (n : ℕ) (xs : List ℕ) → each_below n xs ≡ true → once xs ≡ true → count n (λ i. elem i xs) ≡ length xs
unfolding elem once each_below every
count-once n [] b o = count_none n
count-once n (x ∷ xs) b o =
    let more = count_strict n (λ i. elem i xs) (λ i. (i =? x) or elem i xs) (λ i l t. or_r _ _ t) x (<?_out _ _ (and_l _ _ b)) (not_out _ (and_l _ _ o)) (or_l _ _ (=?-same x)) in
    let one = count_one_more n x (λ i. elem i xs) in
    let rest = count-once n xs (and_r _ _ b) (and_r _ _ o) in
    omega arith

any-firsts : {A : Type 0} (n : ℕ) (xs : List (ℕ × A)) → each_below n (firsts xs) ≡ true → non_empty xs ≡ any n (λ i. elem i (firsts xs))
unfolding non_empty firsts elem each_below every
any-firsts n [] b = sym (fails _ (λ t. clash (any_out n (λ i. false) t).2 refl))
any-firsts n (x ∷ xs) b = sym (any_in n _ x.0 (<?_out _ _ (and_l _ _ b)) (or_l _ _ (=?-same x.0)))

-- what stands beside the numbers of a list in which none stands twice
beside_each : {A : Type 0} (t : A → Bool) (xs : List (ℕ × A)) → once (firsts xs) ≡ true
    → ((v : ℕ) (a : A) → beside xs v ≡ some a → t a ≡ true) → every t (seconds xs) ≡ true
unfolding once firsts seconds every beside
beside_each t [] o h = refl
beside_each t (x ∷ xs) o h =
    and_in _ _ (h x.0 x.1 (if-true _ _ _ (=?-same x.0)))
    (beside_each t xs (and_r _ _ o) (λ v a e. h v a (if-false _ _ _ (=?-not _ _ (λ q.
    clash (sym (ap (λ (k : ℕ). elem k (firsts xs)) q) ∙ sym (beside_elem xs v) ∙ is_some_in _ e) (not_out _ (and_l _ _ o)))) ∙ e)))

each_beside : {A : Type 0} (n : ℕ) (t : A → Bool) (xs : List (ℕ × A)) → each_below n (firsts xs) ≡ true → once (firsts xs) ≡ true
    → every t (seconds xs) ≡ all n (λ v. if_there (beside xs v) t)
each_beside n t xs b o = iff→≡ _ _
    (λ e. all_in n _ (λ v l. if_there_in _ _ (λ a q. beside_second t xs e v a q)))
    (λ e. beside_each t xs o (λ v a q. if_there_out _ _ (all_out n _ e v (below_elem n _ b v (sym (beside_elem xs v) ∙ is_some_in _ q))) a q))

-- ---- sets

free-disjoint : (own : Set) (rs : List ℕ) → each_below facilities rs ≡ true → free own rs ≡ disjoint facilities own (set_of rs)
unfolding free disjoint set_of
free-disjoint own rs b = iff→≡ _ _
    (λ e. all_in _ _ (λ f l. imp_in _ _ (λ t. not_in _ (fails _ (λ q. clash t (not_out _ (every-elem _ rs e f q)))))))
    (λ e. every_listed _ rs (λ f q. not_in _ (fails _ (λ t. clash q (not_out _ (imp_out _ _ (all_out _ _ e f (below_elem _ rs b f q)) t))))))

if_there-map : {A B : Type 0} (g : A → B) (o : Option A) (t : B → Bool) → if_there (option_map g o) t ≡ if_there o (λ a. t (g a))
unfolding if_there option_map
if_there-map g none t = refl
if_there-map g (some x) t = refl

-- ---- what is gathered of each list of a command, where its numbers are below their limits

module _ {A B : Type 0} (n : ℕ) (good full single : A → Bool) (what : A → B) (xs : List (ℕ × A)) (g : Gathered B)
    (is : g ≡ gather n good full single what nothing xs) where
  pub in_limits_lem : (~ g.large) ≡ (each_below n (firsts xs) & every good (seconds xs))
  in_limits_lem =
      ap (λ (z : Bool). ~ z) (ap (λ (h : Gathered B). h.large) is ∙ gathered_large n good full single what xs)
      ∙ not-not _ ∙ entries_below n good full single what xs

  module _ (ok : (~ g.large) ≡ true) where
    below_all : every (entry_below n good full single what) xs ≡ true
    below_all = entries_below n good full single what xs ∙ sym in_limits_lem ∙ ok

    numbers_below : each_below n (firsts xs) ≡ true
    numbers_below = and_l _ _ (sym in_limits_lem ∙ ok)

    pub are_listed : (v : ℕ) → elem v (firsts xs) ≡ listed g v
    are_listed v = sym (ap (λ (h : Gathered B). listed h v) is ∙ gathered_listed n good full single what xs below_all v)

    pub are_below : (v : ℕ) → listed g v ≡ true → v < n
    are_below v t = below_elem n (firsts xs) numbers_below v (are_listed v ∙ t)

    pub are_given : (v : ℕ) → option_map what (beside xs v) ≡ g.given v
    are_given v = sym (ap (λ (h : Gathered B). h.given v) is ∙ gathered_given n good full single what xs below_all v)

    pub are_full : every full (seconds xs) ≡ (~ g.empty)
    are_full = sym (ap (λ (z : Bool). ~ z) (ap (λ (h : Gathered B). h.empty) is ∙ gathered_empty n good full single what xs below_all) ∙ not-not _)

    pub are_once : (once (firsts xs) & every single (seconds xs)) ≡ (~ g.twice)
    are_once = sym (ap (λ (z : Bool). ~ z) (ap (λ (h : Gathered B). h.twice) is ∙ gathered_twice n good full single what xs below_all) ∙ not-not _)

    pub are_some : non_empty xs ≡ any n (listed g)
    are_some = any-firsts n xs numbers_below ∙ any_cong n are_listed

    pub are_many : once (firsts xs) ≡ true → length xs ≡ count n (listed g)
    are_many o =
        sym (length-firsts xs) ∙ sym (count-once n (firsts xs) numbers_below o)
        ∙ ap (count n) (fun_ext are_listed)

-- ---- ADD-SPEC

and_spec : (a p f q e : Bool) → p ≡ true → (a & (p & (f & (q & e)))) ≡ (a & ((f & q) & e))
unfolding ◌&◌
and_spec a true true q e h = refl
and_spec a true false q e h = refl
and_spec a false f q e h = clash refl (sym h)

once-always : {A : Type 0} (xs : List (ℕ × A)) → (once (firsts xs) & every always (seconds xs)) ≡ once (firsts xs)
once-always xs = ap (λ (z : Bool). once (firsts xs) & z) (every-always (seconds xs)) ∙ and_yes _

module _ (b : Book) (c : ℕ) (ps : List ℕ) (vs : List (ℕ × List ℕ)) (s : ℕ) (pb : each_below facilities ps ≡ true) where
  abbrev sets_g : Gathered Set
  sets_g = sets_of vs

  sets_is : sets_g ≡ gather versions (each_below facilities) always always set_of nothing vs
  unfolding sets_of
  sets_is = refl

  spec_limits_lem : in_limits (ADD-SPEC c ps vs s) ≡ (c <? components & ~ sets_g.large & s <? versions)
  unfolding in_limits
  spec_limits_lem =
      and_spec _ _ _ _ _ pb
      ∙ ap (λ (z : Bool). c <? components & z & s <? versions) (sym (in_limits_lem versions (each_below facilities) always always set_of vs sets_g sets_is))

  free_each : (ok : (~ sets_g.large) ≡ true) → once (firsts vs) ≡ true
      → every (free (set_of ps)) (seconds vs) ≡ all versions (λ v. if_there (sets_g.given v) (disjoint facilities (set_of ps)))
  free_each ok o =
      each_beside versions (free (set_of ps)) vs (and_l _ _ limits) o
      ∙ all_cong versions (λ v. if_there_cong (beside vs v) (λ rs q. free-disjoint (set_of ps) rs (beside_second (each_below facilities) vs (and_r _ _ limits) v rs q))
      ∙ sym (if_there-map set_of (beside vs v) (disjoint facilities (set_of ps)))
      ∙ ap (λ (z : Option Set). if_there z (disjoint facilities (set_of ps))) (are_given versions (each_below facilities) always always set_of vs sets_g sets_is ok v))
    where
      limits : (each_below versions (firsts vs) & every (each_below facilities) (seconds vs)) ≡ true
      limits = sym (in_limits_lem versions (each_below facilities) always always set_of vs sets_g sets_is) ∙ ok

  pub spec_answer_lem : answer b (ADD-SPEC c ps vs s) ≡ spec_answer b c (set_of ps) (sets_of vs) s
  unfolding answer questions spec_answer
  spec_answer_lem =
      first_same 1 _ _ _ _ spec_limits_lem (λ l.
      let ok : (~ sets_g.large) ≡ true = and_l _ _ (and_r _ _ (sym spec_limits_lem ∙ l)) in
      first_same 2 _ _ _ _ (are_some versions (each_below facilities) always always set_of vs sets_g sets_is ok) (λ t2.
      first_same 3 _ _ _ _ (sym (once-always vs) ∙ are_once versions (each_below facilities) always always set_of vs sets_g sets_is ok) (λ o.
      first_same 5 _ _ _ _ refl (λ t5.
      first_same 12 _ _ _ _ (ap (λ (n : ℕ). n ≤? 8) (are_many versions (each_below facilities) always always set_of vs sets_g sets_is ok o)) (λ t12.
      first_same 13 _ _ _ _ (free_each ok o) (λ t13.
      first_same 14 _ _ _ _ (are_listed versions (each_below facilities) always always set_of vs sets_g sets_is ok s) (λ t14. refl)))))))

  pub spec_after_lem : (~ (sets_of vs).large) ≡ true → after b (ADD-SPEC c ps vs s) ≡ spec_after b c (set_of ps) (sets_of vs) s
  unfolding after spec_after with_spec
  spec_after_lem ok =
      ap (λ (q : Map Set). record {
        specs = put c (some (record { prov = set_of ps; req = q; std = s })) b.specs;
        modules = b.modules;
        systems = b.systems;
      }) (fun_ext (are_given versions (each_below facilities) always always set_of vs sets_g sets_is ok))

-- ---- ADD-MOD

exactly_listed : {B : Type 0} (b : Book) (c : ℕ) (vs : List ℕ) (g : Gathered B) → ((v : ℕ) → elem v vs ≡ listed g v)
    → exactly b c vs ≡ all versions (λ v. listed g v ⇔ has_version b.specs c v)
unfolding exactly
exactly_listed b c vs g h = all_cong versions (λ v. ap (λ (z : Bool). z ⇔ has_version b.specs c v) (h v))

module _ (b : Book) (c : ℕ) (is : List (ℕ × ℕ)) where
  abbrev numbers_g : Gathered ℕ
  numbers_g = numbers_of is

  numbers_is : numbers_g ≡ gather versions is_implementation always always itself nothing is
  unfolding numbers_of
  numbers_is = refl

  mod_limits : in_limits (ADD-MOD c is) ≡ (c <? components & ~ numbers_g.large)
  unfolding in_limits each_below is_implementation
  mod_limits = ap (λ (z : Bool). c <? components & z) (sym (in_limits_lem versions is_implementation always always itself is numbers_g numbers_is))

  pub mod_answer_lem : answer b (ADD-MOD c is) ≡ mod_answer b c (numbers_of is)
  unfolding answer questions mod_answer
  mod_answer_lem =
      first_same 1 _ _ _ _ mod_limits (λ l.
      let ok : (~ numbers_g.large) ≡ true = and_r _ _ (sym mod_limits ∙ l) in
      first_same 2 _ _ _ _ (are_some versions is_implementation always always itself is numbers_g numbers_is ok) (λ t2.
      first_same 3 _ _ _ _ (sym (once-always is) ∙ are_once versions is_implementation always always itself is numbers_g numbers_is ok) (λ o.
      first_same 4 _ _ _ _ refl (λ t4.
      first_same 8 _ _ _ _ refl (λ t8.
      first_same 9 _ _ _ _ (exactly_listed b c (firsts is) numbers_g (are_listed versions is_implementation always always itself is numbers_g numbers_is ok)) (λ t9. refl))))))

  pub mod_after_lem : (~ (numbers_of is).large) ≡ true → after b (ADD-MOD c is) ≡ mod_after b c (numbers_of is)
  unfolding after mod_after with_module
  mod_after_lem ok =
      ap (λ (m : Map ℕ). record { specs = b.specs; modules = put c (some m) b.modules; systems = b.systems })
      (fun_ext (λ v. sym (map-itself _) ∙ are_given versions is_implementation always always itself is numbers_g numbers_is ok v))

-- ---- ADD-SYS

firsts_alone : (us : List ℕ) → firsts (map alone us) ≡ us
unfolding firsts alone
firsts_alone [] = refl
firsts_alone (u ∷ us) = ap (λ (l : List ℕ). u ∷ l) (firsts_alone us)

and_sys : (a u f q : Bool) → (a & (u & (f & q))) ≡ (a & ((u & true) & (f & q)))
unfolding ◌&◌
and_sys a true f q = refl
and_sys a false f q = refl

specified_each : (t : ℕ → Bool) (us : List ℕ) → each_below components us ≡ true → every t us ≡ subset components (set_of us) t
unfolding subset set_of
specified_each t us b = iff→≡ _ _
    (λ e. all_in _ _ (λ c l. imp_in _ _ (λ q. every-elem _ us e c q)))
    (λ e. every_listed _ us (λ c q. imp_out _ _ (all_out _ _ e c (below_elem _ us b c q)) q))

module _ (b : Book) (c : ℕ) (us : List ℕ) (ks : List (ℕ × Members)) where
  abbrev usable_g : Gathered (Unit {0})
  usable_g = usable_of us

  usable_is : usable_g ≡ gather components always always always itself nothing (map alone us)
  unfolding usable_of
  usable_is = refl

  abbrev composed_g : Gathered (Map (Option ℕ))
  composed_g = compositions_of ks

  composed_is : composed_g ≡ gather versions (every member_below) non_empty members_once beside nothing ks
  unfolding compositions_of compositions_from
  composed_is = refl

  usable_limits : (~ usable_g.large) ≡ (each_below components us & true)
  usable_limits =
      in_limits_lem components always always always itself (map alone us) usable_g usable_is
      ∙ ap₂ (λ (l : List ℕ) (z : Bool). each_below components l & z) (firsts_alone us) (every-always (seconds (map alone us)))

  sys_limits : in_limits (ADD-SYS c us ks) ≡ (c <? components & ~ usable_g.large & ~ composed_g.large)
  unfolding in_limits
  sys_limits =
      and_sys _ _ _ _
      ∙ ap₂ (λ (x y : Bool). c <? components & (x & y)) (sym usable_limits) (sym (in_limits_lem versions (every member_below) non_empty members_once beside ks composed_g composed_is))

  module _ (uk : (~ usable_g.large) ≡ true) (ok : (~ composed_g.large) ≡ true) where
    usable_set : set_of us ≡ listed usable_g
    unfolding set_of
    usable_set = fun_ext (λ d. ap (elem d) (sym (firsts_alone us)) ∙ are_listed components always always always itself (map alone us) usable_g usable_is uk d)

    pub sys_after_lem : after b (ADD-SYS c us ks) ≡ sys_after b c (listed usable_g) composed_g.given
    unfolding after sys_after with_system
    sys_after_lem =
        ap₂ (λ (u : Set) (m : Map (Map ℕ)). record { specs = b.specs; modules = b.modules; systems = put c (some (record { uses = u; comp = m })) b.systems })
        usable_set
        (fun_ext (λ v. stored_map (beside ks v) ∙ ap (option_map (stores b.specs)) (are_given versions (every member_below) non_empty members_once beside ks composed_g composed_is ok v)))
      where
        stored_map : (o : Option Members) → option_map (stored b.specs) o ≡ option_map (stores b.specs) (option_map beside o)
        stored_map none = unfold option_map in refl
        stored_map (some ms) = unfold option_map stored stores in refl

    sys_once : (once (firsts ks) & once us & every (λ ms. once (firsts ms)) (seconds ks)) ≡ (~ composed_g.twice & ~ usable_g.twice)
    unfolding members_once
    sys_once =
        and_turn _ _ _
        ∙ ap₂ (λ (x y : Bool). x & y) (are_once versions (every member_below) non_empty members_once beside ks composed_g composed_is ok)
        (ap once (sym (firsts_alone us)) ∙ sym (once-always (map alone us)) ∙ are_once components always always always itself (map alone us) usable_g usable_is uk)
      where
        and_turn : (x y z : Bool) → (x & y & z) ≡ ((x & z) & y)
        and_turn true y z = unfold ◌&◌ in and_swap y z
        and_turn false y z = unfold ◌&◌ in refl

    us_below : each_below components us ≡ true
    us_below = and_l _ _ (sym usable_limits ∙ uk)

  pub sys_answer_lem : answer b (ADD-SYS c us ks) ≡ sys_answer b c (usable_of us) (compositions_of ks)
  unfolding answer questions sys_answer
  sys_answer_lem =
      first_same 1 _ _ _ _ sys_limits (λ l.
      let uk : (~ usable_g.large) ≡ true = and_l _ _ (and_r _ _ (sym sys_limits ∙ l)) in
      let ok : (~ composed_g.large) ≡ true = and_r _ _ (and_r _ _ (sym sys_limits ∙ l)) in
      first_same 2 _ _ _ _ (ap₂ (λ (x y : Bool). x & y) (are_some versions (every member_below) non_empty members_once beside ks composed_g composed_is ok) (are_full versions (every member_below) non_empty members_once beside ks composed_g composed_is ok)) (λ t2.
      first_same 3 _ _ _ _ (sys_once uk ok) (λ t3.
      first_same 4 _ _ _ _ refl (λ t4.
      first_same 8 _ _ _ _ refl (λ t8.
      first_same 9 _ _ _ _ (exactly_listed b c (firsts ks) composed_g (are_listed versions (every member_below) non_empty members_once beside ks composed_g composed_is ok)) (λ t9.
      first_same 16 _ _ _ _ refl (λ t16.
      first_same 17 _ _ _ _ (specified_each (specified b.specs) us (us_below uk ok) ∙ ap (λ (z : Set). subset components z (specified b.specs)) (usable_set uk ok)) (λ t17.
      first_same 19 _ _ _ _ (ap (λ (x : Book). B3 b.specs x.systems) (sys_after_lem uk ok)) (λ t19.
      first_same 20 _ _ _ _ (ap (λ (x : Book). B4 x.systems) (sys_after_lem uk ok)) (λ t20.
      first_same 21 _ _ _ _ (ap B5_to_B9 (sys_after_lem uk ok)) (λ t21. refl)))))))))))

-- ---- ADD-MODVAR

and_modvar : (a v q i : Bool) → q ≡ true → (a & (v & (q & i))) ≡ (a & (v & i))
unfolding ◌&◌
and_modvar a v q i e = rw e refl

module _ (b : Book) (c v : ℕ) (rs : List ℕ) (i : ℕ) (rb : each_below facilities rs ≡ true) where
  pub modvar_answer_lem : answer b (ADD-MODVAR c v rs i) ≡ modvar_answer b c v (set_of rs) i
  unfolding answer questions modvar_answer in_limits
  modvar_answer_lem =
      first_same 1 _ _ _ _ (and_modvar _ _ _ _ rb) (λ l.
      first_same 6 _ _ _ _ refl (λ t6.
      first_same 11 _ _ _ _ refl (λ t11.
      first_same 12 _ _ _ _ refl (λ t12.
      first_same 13 _ _ _ _ (free-disjoint _ rs rb) (λ t13. refl)))))

  pub modvar_after : after b (ADD-MODVAR c v rs i) ≡ with_modvar b c v (set_of rs) i
  unfolding after with_modvar
  modvar_after = refl

-- ---- ADD-SYSVAR

module _ (b : Book) (c v : ℕ) (ms : Members) where
  abbrev members_g : Gathered (Option ℕ)
  members_g = members_of ms

  members_is : members_g ≡ gather components is_version_or_none always always itself nothing ms
  unfolding members_of
  members_is = refl

  members_limits : (~ members_g.large) ≡ every member_below ms
  members_limits =
      in_limits_lem components is_version_or_none always always itself ms members_g members_is
      ∙ sym (entries_below components is_version_or_none always always itself ms) ∙ sym (member_below_lem ms)

  sysvar_limits : in_limits (ADD-SYSVAR c v ms) ≡ (c <? components & v <? versions & ~ members_g.large)
  unfolding in_limits
  sysvar_limits = ap (λ (z : Bool). c <? components & v <? versions & z) (sym members_limits)

  pub sysvar_after_lem : (~ (members_of ms).large) ≡ true → after b (ADD-SYSVAR c v ms) ≡ sysvar_after b c v (members_of ms).given
  unfolding after sysvar_after with_sysvar
  sysvar_after_lem ok =
      ap (λ (m : Map ℕ). with_sysvar b c v m)
      (fun_ext (λ d. stored_is d ∙ ap (option_map (λ x. or_else x (standard b.specs d))) (sym (map-itself _) ∙ are_given components is_version_or_none always always itself ms members_g members_is ok d)
      ∙ stores_is d))
    where
      stored_is : (d : ℕ) → stored b.specs ms d ≡ option_map (λ x. or_else x (standard b.specs d)) (beside ms d)
      stored_is d = unfold stored in refl

      stores_is : (d : ℕ) → option_map (λ x. or_else x (standard b.specs d)) (members_g.given d) ≡ stores b.specs members_g.given d
      stores_is d = unfold stores in refl

  pub sysvar_answer_lem : answer b (ADD-SYSVAR c v ms) ≡ sysvar_answer b c v (members_of ms)
  unfolding answer questions sysvar_answer
  sysvar_answer_lem =
      first_same 1 _ _ _ _ sysvar_limits (λ l.
      let ok : (~ members_g.large) ≡ true = and_r _ _ (and_r _ _ (sym sysvar_limits ∙ l)) in
      first_same 2 _ _ _ _ (are_some components is_version_or_none always always itself ms members_g members_is ok) (λ t2.
      first_same 3 _ _ _ _ (sym (once-always ms) ∙ are_once components is_version_or_none always always itself ms members_g members_is ok) (λ o.
      first_same 7 _ _ _ _ refl (λ t7.
      first_same 11 _ _ _ _ refl (λ t11.
      first_same 12 _ _ _ _ refl (λ t12.
      first_same 21 _ _ _ _ (ap B5_to_B9 (sysvar_after_lem ok)) (λ t21. refl)))))))
