-- Which call a number stands for, and that each of the ten calls has one.
use Rattle.std.specs.Prelude.{List, [], ◌≢◌, ◌≡◌, refl, ℕ}
use Rattle.std.proofs.Common.{◌∙◌, subst, sym}
use Rattle.command_outcome.specs.Calls.{Call, add_mod, add_modvar, add_spec, add_sys, add_sysvar, call_of, command_of}
use Rattle.command_outcome.specs.Calls.{del_mod, del_modvar, del_spec, del_sys, del_sysvar}
use Rattle.command_outcome.specs.Outcome.{Called}
use Rattle.sets.specs.TestLaws.{=?-in, =?-not, if-false, if-true}
use Rattle.sets.specs.Tests.{◌=?◌, if?◌then◌else◌}

module _ (kind c v i f : ℕ) (us vs is ls ms xs qs : List ℕ) where
  abbrev this : Call
  this = call_of kind c v i f us vs is ls ms xs qs

  pub is_0 : kind ≡ 0 → this ≡ add_spec c f vs qs v
  unfolding call_of
  is_0 e = if-true _ _ _ (=?-in _ _ e)

  module _ (n0 : kind ≢ 0) where
    pub is_1 : kind ≡ 1 → this ≡ add_mod c vs is
    unfolding call_of
    is_1 e = if-false _ _ _ (=?-not _ _ n0) ∙ if-true _ _ _ (=?-in _ _ e)

    module _ (n1 : kind ≢ 1) where
      pub is_2 : kind ≡ 2 → this ≡ add_sys c us vs ls ms xs
      unfolding call_of
      is_2 e = if-false _ _ _ (=?-not _ _ n0) ∙ if-false _ _ _ (=?-not _ _ n1) ∙ if-true _ _ _ (=?-in _ _ e)

      module _ (n2 : kind ≢ 2) where
        past_2 : this ≡ (if? kind =? 3 then add_modvar c v f i else (if? kind =? 4 then add_sysvar c v ms xs else (if? kind =? 5 then del_spec c
            else (if? kind =? 6 then del_mod c else (if? kind =? 7 then del_sys c else (if? kind =? 8 then del_modvar c v else del_sysvar c v))))))
        unfolding call_of
        past_2 = if-false _ _ _ (=?-not _ _ n0) ∙ if-false _ _ _ (=?-not _ _ n1) ∙ if-false _ _ _ (=?-not _ _ n2)

        pub is_3 : kind ≡ 3 → this ≡ add_modvar c v f i
        is_3 e = past_2 ∙ if-true _ _ _ (=?-in _ _ e)

        module _ (n3 : kind ≢ 3) where
          pub is_4 : kind ≡ 4 → this ≡ add_sysvar c v ms xs
          is_4 e = past_2 ∙ if-false _ _ _ (=?-not _ _ n3) ∙ if-true _ _ _ (=?-in _ _ e)

          module _ (n4 : kind ≢ 4) where
            past_4 : this ≡ (if? kind =? 5 then del_spec c else (if? kind =? 6 then del_mod c else (if? kind =? 7 then del_sys c
                else (if? kind =? 8 then del_modvar c v else del_sysvar c v))))
            past_4 = past_2 ∙ if-false _ _ _ (=?-not _ _ n3) ∙ if-false _ _ _ (=?-not _ _ n4)

            pub is_5 : kind ≡ 5 → this ≡ del_spec c
            is_5 e = past_4 ∙ if-true _ _ _ (=?-in _ _ e)

            module _ (n5 : kind ≢ 5) where
              pub is_6 : kind ≡ 6 → this ≡ del_mod c
              is_6 e = past_4 ∙ if-false _ _ _ (=?-not _ _ n5) ∙ if-true _ _ _ (=?-in _ _ e)

              module _ (n6 : kind ≢ 6) where
                past_6 : this ≡ (if? kind =? 7 then del_sys c else (if? kind =? 8 then del_modvar c v else del_sysvar c v))
                past_6 = past_4 ∙ if-false _ _ _ (=?-not _ _ n5) ∙ if-false _ _ _ (=?-not _ _ n6)

                pub is_7 : kind ≡ 7 → this ≡ del_sys c
                is_7 e = past_6 ∙ if-true _ _ _ (=?-in _ _ e)

                module _ (n7 : kind ≢ 7) where
                  pub is_8 : kind ≡ 8 → this ≡ del_modvar c v
                  is_8 e = past_6 ∙ if-false _ _ _ (=?-not _ _ n7) ∙ if-true _ _ _ (=?-in _ _ e)

                  pub is_9 : kind ≢ 8 → this ≡ del_sysvar c v
                  is_9 n8 = past_6 ∙ if-false _ _ _ (=?-not _ _ n7) ∙ if-false _ _ _ (=?-not _ _ n8)

pub called_as : {s n s' n' : List ℕ} {a : ℕ} (q q' : Call) → q ≡ q' → Called s n (command_of q') a s' n' → Called s n (command_of q) a s' n'
called_as {s} {n} {s'} {n'} {a} q q' e h = subst (λ (x : Call). Called s n (command_of x) a s' n') (sym e) h

-- what a call carries
pub record Carried : Type 0 where
  pub kind : ℕ
  pub c : ℕ
  pub v : ℕ
  pub i : ℕ
  pub f : ℕ
  pub us : List ℕ
  pub vs : List ℕ
  pub is : List ℕ
  pub ls : List ℕ
  pub ms : List ℕ
  pub xs : List ℕ
  pub qs : List ℕ

unfoldable pub the_call : Carried → Call
the_call k = call_of k.kind k.c k.v k.i k.f k.us k.vs k.is k.ls k.ms k.xs k.qs

abbrev carry : ℕ → ℕ → ℕ → ℕ → ℕ → List ℕ → List ℕ → List ℕ → List ℕ → List ℕ → List ℕ → List ℕ → Carried
carry kind c v i f us vs is ls ms xs qs = record {
  kind = kind;
  c = c;
  v = v;
  i = i;
  f = f;
  us = us;
  vs = vs;
  is = is;
  ls = ls;
  ms = ms;
  xs = xs;
  qs = qs;
}

-- each of the ten calls, with all numbers and slices, is made so
pub each_call : (q : Call) → (k : Carried) × (the_call k ≡ q)
unfolding the_call call_of if?◌then◌else◌ ◌=?◌
each_call (add_spec c f vs qs s) = (carry 0 c s 0 f [] vs [] [] [] [] qs, refl)
each_call (add_mod c vs is) = (carry 1 c 0 0 0 [] vs is [] [] [] [], refl)
each_call (add_sys c us vs ls ms xs) = (carry 2 c 0 0 0 us vs [] ls ms xs [], refl)
each_call (add_modvar c v f i) = (carry 3 c v i f [] [] [] [] [] [] [], refl)
each_call (add_sysvar c v ms xs) = (carry 4 c v 0 0 [] [] [] [] ms xs [], refl)
each_call (del_spec c) = (carry 5 c 0 0 0 [] [] [] [] [] [] [], refl)
each_call (del_mod c) = (carry 6 c 0 0 0 [] [] [] [] [] [] [], refl)
each_call (del_sys c) = (carry 7 c 0 0 0 [] [] [] [] [] [] [], refl)
each_call (del_modvar c v) = (carry 8 c v 0 0 [] [] [] [] [] [] [], refl)
each_call (del_sysvar c v) = (carry 9 c v 0 0 [] [] [] [] [] [] [], refl)
