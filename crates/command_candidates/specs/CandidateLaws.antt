-- What the writers of a system leave is what the accepted command changes.
use Rattle.std.specs.Prelude.{Bool, Option as Found, true, ◌≡◌, List, ◌*◌, ◌+◌, ◌<◌, ◌^◌, ℕ, get_or, length}
use Rattle.std.proofs.Math.Bool.{false}
use Rattle.std.proofs.Common.{◌∙◌, ap₂, arith}
use Rattle.std.proofs.Math.Option.{Option, none, some}
use Rattle.std.proofs.Math.Path.{ap, fun_ext, refl, subst, sym}
use Rattle.book.specs.Changes.{Holds, TakesDefinition, TakesVersion, compositions_of, row_of, system_from, with_system, with_sysvar}
use Rattle.book.specs.Plain.{plain_of, systems_of}
use Rattle.book_rules.specs.Test.{passes}
use Rattle.book_rules.specs.TestLaws.{passes_plain, passes-proper}
use Rattle.command_candidates.specs.Completed.{Filled, members_at, row_number, row_put, stored_in}
use Rattle.command_candidates.specs.CompletedLaws.{at_composition, members_listed, one_row, row_stored}
use Rattle.command_lists.specs.Answers.{stores, sys_after, sysvar_after}
use Rattle.command_lists.specs.Gathered.{listed, mapped}
use Rattle.command_lists.specs.ViewLaws.{listed_mapped, listed_seen}
use Rattle.command_lists.specs.Views.{composition_of, composition_view, compositions_view, maybe, usable_view, view}
use Rattle.command_lists.specs.declared.gathered.Gathered.{Gathered as Kept}
use Rattle.command_questions.specs.Asked.{sys_asked, sysvar_asked}
use Rattle.model.specs.Book.{Book, Specs, has_version, is_system}
use Rattle.model.specs.Maps.{Map, is_some, only_if, option_map, or_else}
use Rattle.model.specs.Questions.{first_no}
use Rattle.model.specs.Rules.{B4}
use Rattle.model_laws.specs.Accepted.{EachYes, all_yes}
use Rattle.model_laws.specs.Alike.{sys_is, sys_usable}
use Rattle.model_laws.specs.Frame.{B4_kept}
use Rattle.model_laws.specs.Good.{Good, passes→good}
use Rattle.model_laws.specs.MapLaws.{is_some_in, is_some_out, option_map-some}
use Rattle.sets.specs.Answered.{answered}
use Rattle.sets.specs.SetLaws.{bit_limit}
use Rattle.sets.specs.Sets.{Set, bit}
use Rattle.sets.specs.TestLaws.{<?_out, all_out, and_l, and_r, clash, iff_out, iff→≡, not_out}

-- ---- one composition

only_there : (o : Option ℕ) (b : Bool) (x : ℕ) → is_some o ≡ b → (b ≡ true → x ≡ or_else o 0) → only_if b x ≡ o
unfolding is_some only_if or_else
only_there none true x e h = clash e refl
only_there none false x e h = refl
only_there (some y) true x e h = ap some (h refl)
only_there (some y) false x e h = clash refl e

only_given : {A B C : Type 0} (o : Option A) (b : Bool) (x : C) (g : A → B) (f : B → C) → is_some o ≡ b → ((k : A) → o ≡ some k → x ≡ f (g k))
    → only_if b x ≡ option_map f (option_map g o)
unfolding is_some only_if option_map
only_given none true x g f e h = clash e refl
only_given none false x g f e h = refl
only_given (some k) true x g f e h = ap some (h k refl)
only_given (some k) false x g f e h = clash refl e

module _ (S : Specs) (rows : List ℕ) (v : ℕ) (k : Kept (Found ℕ) 32)
    (stored : (m : ℕ) → m < 32 → get_or rows (v * 32 + m) 0 ≡ stored_in S (composition_of k) m) where
  member_listed : (m : ℕ) → is_some (stores S (composition_of k) m) ≡ bit k.listed m
  unfolding stores composition_of
  member_listed m = option_map-some _ _ ∙ (unfold composition_view listed in ap (λ (a : Set). a m) (listed_mapped 32 k answered))

  row_given : row_of k.listed rows v ≡ stores S (composition_of k)
  unfolding row_of stored_in
  row_given = fun_ext (λ m. only_there (stores S (composition_of k) m) (bit k.listed m) _ (member_listed m) (λ t. stored m (bit_limit 32 k.listed m k.low t)))

-- ---- ADD-SYS

module _ (s n : List ℕ) (c : ℕ) (u : Kept (Unit {0}) 32) (g : Kept (Kept (Found ℕ) 32) 64) (good : passes s n ≡ true)
    (asked : first_no (sys_asked (plain_of s n) c (usable_view u) (compositions_view g)) ≡ 0) where
  yes_all : EachYes (sys_asked (plain_of s n) c (usable_view u) (compositions_view g))
  unfolding sys_asked
  yes_all = all_yes (sys_asked (plain_of s n) c (usable_view u) (compositions_view g)) (omega arith) asked

  pub takes_definition : TakesDefinition s n c
  unfolding sys_asked
  takes_definition = record {
    component< = <?_out _ _ (and_l _ _ yes_all.0);
    is_proper = passes-proper s n good;
    is_specified = yes_all.1.1.1.0;
    is_undefined = not_out _ yes_all.1.1.1.1.0;
  }

  version< : (v : ℕ) → has_version (plain_of s n).specs c v ≡ true → v < 64
  version< v t = (passes_plain s n good).spec_limits.version< c v t

  exactly : (v : ℕ) → v < 64 → listed (compositions_view g) v ≡ has_version (plain_of s n).specs c v
  unfolding sys_asked
  exactly v h = iff_out _ _ (all_out 64 _ yes_all.1.1.1.1.1.0 v h)

  listed_as : listed (compositions_view g) ≡ bit g.listed
  unfolding compositions_view
  listed_as = listed_mapped 64 g composition_of

  given_as : (v : ℕ) → listed (compositions_view g) v ≡ is_some ((view g).given v)
  unfolding listed compositions_view mapped
  given_as v = option_map-some composition_of ((view g).given v)

  versions_are : (v : ℕ) → is_some ((view g).given v) ≡ has_version (plain_of s n).specs c v
  versions_are v = sym (given_as v) ∙ iff→≡ _ _ (λ t. sym (exactly v (bit_limit 64 g.listed v g.low (sym (ap (λ (a : Set). a v) listed_as) ∙ t))) ∙ t) (λ t. exactly v (version< v t) ∙ t)

  module _ (members : List ℕ) (listed_in : Filled (members_at (view g).given) 64 members 64) where
    pub members_small : (v : ℕ) → has_version (plain_of s n).specs c v ≡ true → get_or members v 0 < 2 ^ 32
    members_small v t = let h = is_some_out ((view g).given v) (versions_are v ∙ t) in rw (listed_in.is v (version< v t) ∙ members_listed _ v h.0 h.1) h.0.low

    module _ (rows : List ℕ) (stored : Filled (row_number (plain_of s n).specs (compositions_view g).given) 2048 rows 2048) where
      compositions_are : compositions_of (plain_of s n).specs c members rows ≡ (λ v. option_map (stores (plain_of s n).specs) ((compositions_view g).given v))
      unfolding compositions_of compositions_view mapped
      compositions_are = fun_ext (λ v. only_given ((view g).given v) (has_version (plain_of s n).specs c v) _ composition_of (stores (plain_of s n).specs)
          (versions_are v) (λ k e. let v< = version< v (sym (versions_are v) ∙ is_some_in _ e) in
          ap (λ (x : ℕ). row_of x rows v) (listed_in.is v v< ∙ members_listed _ v k e) ∙ row_given (plain_of s n).specs rows v k (λ m m<. row_stored (plain_of s n).specs (compositions_view g).given rows v m stored v< m<
          ∙ sym (at_composition (plain_of s n).specs g v m k (unfold maybe in sym e)))))

      usable_are : bit u.listed ≡ listed (usable_view u)
      unfolding usable_view
      usable_are = sym (listed_seen 32 u)

      pub sys_candidate_is : (s' n' : List ℕ) → Holds s' n' (with_system (plain_of s n) c (system_from (plain_of s n).specs c u.listed members rows))
          → Holds s' n' (sys_after (plain_of s n) c (listed (usable_view u)) (compositions_view g).given)
      unfolding sys_after system_from
      sys_candidate_is s' n' h =
          subst (Holds s' n') (ap₂ (λ (a : Set) (m : Map (Map ℕ)). with_system (plain_of s n) c (record { uses = a; comp = m })) usable_are compositions_are) h

-- ---- ADD-SYSVAR

module _ (s n : List ℕ) (c v : ℕ) (g : Kept (Found ℕ) 32) (good : passes s n ≡ true)
    (asked : first_no (sysvar_asked (plain_of s n) c v (composition_view g)) ≡ 0) where
  yes_each : EachYes (sysvar_asked (plain_of s n) c v (composition_view g))
  unfolding sysvar_asked
  yes_each = all_yes (sysvar_asked (plain_of s n) c v (composition_view g)) (omega arith) asked

  pub is_system_lem : is_system (plain_of s n).systems c ≡ true
  unfolding sysvar_asked
  is_system_lem = yes_each.1.1.1.0

  pub version_small : v < 64
  unfolding sysvar_asked
  version_small = <?_out _ _ (and_l _ _ (and_r _ _ yes_each.0))

  good_book : Good (plain_of s n)
  good_book = passes→good (passes_plain s n good)

  pub takes_version : TakesVersion s n c v
  unfolding sysvar_asked
  takes_version = record {
    room = record {
      component< = <?_out _ _ (and_l _ _ yes_each.0);
      is_proper = passes-proper s n good;
      is_specified = good_book.b2.sys_spec c is_system_lem;
      is_room = <?_out _ _ yes_each.1.1.1.1.1.0;
    };
    version< = version_small;
    is_new = not_out _ yes_each.1.1.1.1.0;
  }

  pub system_with : (is_system (plain_of s n).systems c ≡ true) × (g.listed < 2 ^ 32)
  system_with = (is_system_lem, g.low)

  module _ (s' n' : List ℕ) (m : Map ℕ) (h : Holds s' n' (with_sysvar (plain_of s n) c v m)) where
    pub sysvar_B4 : B4 (systems_of s' n') ≡ true
    unfolding with_sysvar
    sysvar_B4 = subst (λ (b : Book). B4 b.systems ≡ true) (sym h.is)
        (B4_kept (plain_of s n).systems _ good_book.system_limits
        (λ x d t. sym (sys_usable (plain_of s n).systems c v (some m) is_system_lem x d) ∙ t)
        (λ x t. sym (sys_is (plain_of s n).systems c v (some m) is_system_lem x) ∙ t)
        good_book.b4)

  module _ (rows row then : List ℕ) (long : length rows ≡ 2048) (filled : Filled (stored_in (plain_of s n).specs (composition_of g)) 32 row 32)
      (put : then ≡ row_put rows v row) where
    pub sysvar_candidate_is : (s' n' : List ℕ) → Holds s' n' (with_sysvar (plain_of s n) c v (row_of g.listed then v))
        → Holds s' n' (sysvar_after (plain_of s n) c v (composition_view g).given)
    unfolding sysvar_after composition_of
    sysvar_candidate_is s' n' h =
        subst (Holds s' n') (ap (with_sysvar (plain_of s n) c v) (row_given (plain_of s n).specs then v g
        (λ m m<. rw put (one_row (plain_of s n).specs (composition_of g) rows row v m long filled version_small m<)))) h
