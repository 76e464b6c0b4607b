-- Which query a number stands for.
use Rattle.std.specs.Prelude.{List, ◌≢◌, ◌≡◌, ℕ}
use Rattle.std.proofs.Common.{◌∙◌, subst, sym}
use Rattle.model.specs.Queries.{NEEDS, Query, Reply, STANDARD, SUPPLIES, UNDEFINED, UNUSED, WHEREUSED, the_version}
use Rattle.bench_host.specs.Asked.{asked_by}
use Rattle.query_replies.specs.Replied.{Replied, components_in, facilities_in, replied_to}
use Rattle.sets.specs.TestLaws.{=?-in, =?-not, if-false, if-true}
use Rattle.sets.specs.Tests.{◌=?◌, if?◌then◌else◌}

abbrev Asked : Type 0
Asked = Query × (ℕ → Reply)

module _ (kind c v : ℕ) where
  abbrev this : Asked
  this = asked_by kind c v

  is_0 : kind ≡ 0 → this ≡ (SUPPLIES c, facilities_in)
  unfolding asked_by
  is_0 e = if-true _ _ _ (=?-in _ _ e)

  module _ (n0 : kind ≢ 0) where
    is_1 : kind ≡ 1 → this ≡ (NEEDS c v, facilities_in)
    unfolding asked_by
    is_1 e = if-false _ _ _ (=?-not _ _ n0) ∙ if-true _ _ _ (=?-in _ _ e)

    module _ (n1 : kind ≢ 1) where
      is_2 : kind ≡ 2 → this ≡ (UNDEFINED, components_in)
      unfolding asked_by
      is_2 e = if-false _ _ _ (=?-not _ _ n0) ∙ if-false _ _ _ (=?-not _ _ n1) ∙ if-true _ _ _ (=?-in _ _ e)

      module _ (n2 : kind ≢ 2) where
        past_2 : this ≡ (if? kind =? 3 then (UNUSED, components_in) else (if? kind =? 4 then (WHEREUSED c, components_in) else (STANDARD c, the_version)))
        unfolding asked_by
        past_2 = if-false _ _ _ (=?-not _ _ n0) ∙ if-false _ _ _ (=?-not _ _ n1) ∙ if-false _ _ _ (=?-not _ _ n2)

        is_3 : kind ≡ 3 → this ≡ (UNUSED, components_in)
        is_3 e = past_2 ∙ if-true _ _ _ (=?-in _ _ e)

        module _ (n3 : kind ≢ 3) where
          is_4 : kind ≡ 4 → this ≡ (WHEREUSED c, components_in)
          is_4 e = past_2 ∙ if-false _ _ _ (=?-not _ _ n3) ∙ if-true _ _ _ (=?-in _ _ e)

          is_5 : kind ≢ 4 → this ≡ (STANDARD c, the_version)
          is_5 n4 = past_2 ∙ if-false _ _ _ (=?-not _ _ n3) ∙ if-false _ _ _ (=?-not _ _ n4)

-- what the query of a number gives is what its call gives
module _ (s n : List ℕ) (a x kind c v : ℕ) where
  abbrev Given : Asked → Type 0
  Given q = Replied q.1 a x (replied_to s n q.0)

  as_call : (q : Asked) → asked_by kind c v ≡ q → Given q → Given (asked_by kind c v)
  as_call q e h = subst Given (sym e) h

  pub gives_0 : kind ≡ 0 → Replied facilities_in a x (replied_to s n (SUPPLIES c)) → Given (asked_by kind c v)
  gives_0 e h = as_call _ (is_0 kind c v e) h

  module _ (n0 : kind ≢ 0) where
    pub gives_1 : kind ≡ 1 → Replied facilities_in a x (replied_to s n (NEEDS c v)) → Given (asked_by kind c v)
    gives_1 e h = as_call _ (is_1 kind c v n0 e) h

    module _ (n1 : kind ≢ 1) where
      pub gives_2 : kind ≡ 2 → Replied components_in a x (replied_to s n UNDEFINED) → Given (asked_by kind c v)
      gives_2 e h = as_call _ (is_2 kind c v n0 n1 e) h

      module _ (n2 : kind ≢ 2) where
        pub gives_3 : kind ≡ 3 → Replied components_in a x (replied_to s n UNUSED) → Given (asked_by kind c v)
        gives_3 e h = as_call _ (is_3 kind c v n0 n1 n2 e) h

        module _ (n3 : kind ≢ 3) where
          pub gives_4 : kind ≡ 4 → Replied components_in a x (replied_to s n (WHEREUSED c)) → Given (asked_by kind c v)
          gives_4 e h = as_call _ (is_4 kind c v n0 n1 n2 n3 e) h

          pub gives_5 : kind ≢ 4 → Replied the_version a x (replied_to s n (STANDARD c)) → Given (asked_by kind c v)
          gives_5 n4 h = as_call _ (is_5 kind c v n0 n1 n2 n3 n4) h
