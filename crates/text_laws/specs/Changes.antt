-- What a command does to a state of a session: nothing; or it is accepted, with its new names in the tables.
use Rattle.std.specs.Prelude.{Bool, true, ◌≡◌, refl, suc, zero, ℕ}
use Rattle.std.proofs.Math.Option.{Option, none, some}
use Rattle.model.specs.Commands.{Command, DEL-MOD, DEL-MODVAR, DEL-SPEC, DEL-SYS, DEL-SYSVAR, after}
use Rattle.model.specs.PlainBook.{answer}
use Rattle.model.specs.Queries.{Query, Reply, reply, the_components, the_facilities, the_pairs, the_parts, the_version}
use Rattle.sets.specs.TestLaws.{and_l, and_r}
use Rattle.text.specs.Language.{CHOICE, DELMOD, DELMODVAR, DELSPEC, DELSYS, DELSYSVAR, MOD, MODVAR, NEEDS, Name, OUT, PARTS, SPEC}
use Rattle.text.specs.Language.{STANDARD, SUPPLIES, SYS, SYSVAR, Said, UNDEFINED, UNUSED, WHEREUSED}
use Rattle.text.specs.Session.{Result, State, add, afterwards, asked, carry, decided, for_component, for_pair, of_component, of_version}
use Rattle.text.specs.Session.{shown, told}
use Rattle.text.specs.Tables.{Tables, entered, fits, place}
use Rattle.text_laws.specs.BookNumbers.{puts}
use Rattle.text_laws.specs.TextLaws.{by_test}
use Rattle.text_laws.specs.ValidNames.{valid_said}
use Rattle.text_laws.specs.ValidTables.{AllValid, Puts, mod_puts, mod_valid, modvar_puts, modvar_valid, spec_puts}
use Rattle.text_laws.specs.ValidTables.{spec_valid, sys_puts, sys_valid, sysvar_puts, sysvar_valid}
use contract.Running.{tables}
use Rattle.model.specs.Queries as queries

pub data Changes (s : State) : State → Type 0 where
  stays : Changes s s
  -- a command that brings no names
  tells : (k : Command) → Puts s.tables k → answer s.book k ≡ 0
      → Changes s (record { book = after s.book k; tables = s.tables })
  -- a command that brings the names m, for which there are places
  adds : (m : Tables) (k : Command) → AllValid m → Puts (entered s.tables m) k → fits (entered s.tables m) ≡ true
      → answer s.book k ≡ 0 → Changes s (record { book = after s.book k; tables = entered s.tables m })

decided_changes : (s : State) (n : ℕ) (s' : State) → (n ≡ 0 → Changes s s') → Changes s (afterwards s (decided n s'))
unfolding decided afterwards
decided_changes s zero s' h = h refl
decided_changes s (suc n) s' h = stays

told_changes : (s : State) (k : Command) → Puts s.tables k → Changes s (afterwards s (told s.book s.tables k))
unfolding told
told_changes s k p = decided_changes s _ _ (tells k p)

add_changes : (s : State) (m : Tables) (f : Tables → Command) → AllValid m
    → Puts (entered s.tables m) (f (entered s.tables m))
    → Changes s (afterwards s (add s m f))
unfolding add told
add_changes s m f a p = by_test (λ x. Changes s (afterwards s x)) (fits (entered s.tables m)) _ _
    (λ e. decided_changes s _ _ (adds m _ a p e)) (unfold afterwards in stays)

one_changes : (s : State) (n : ℕ) (c : Name) (f : ℕ → Result) → ((d : ℕ) → Changes s (afterwards s (f d)))
    → Changes s (afterwards s (of_component s n c f))
unfolding of_component
one_changes s n c f h = go (place s.tables.comps c)
  where
    go : (o : Option ℕ) → Changes s (afterwards s (for_component n o f))
    go none = unfold for_component afterwards in stays
    go (some d) = unfold for_component in h d

pair_changes : (s : State) (n : ℕ) (there : ℕ → Bool) (c v : Name) (f : ℕ → ℕ → Result)
    → ((d w : ℕ) → Changes s (afterwards s (f d w))) → Changes s (afterwards s (of_version s n there c v f))
unfolding of_version
pair_changes s n there c v f h = go (place s.tables.comps c) (place s.tables.vers v)
  where
    go : (o p : Option ℕ) → Changes s (afterwards s (for_pair n there o p f))
    go none p = unfold for_pair afterwards in stays
    go (some d) none = unfold for_pair in
        by_test (λ x. Changes s (afterwards s x)) (there d) _ _ (λ e. unfold afterwards in stays) (unfold afterwards in stays)
    go (some d) (some w) = unfold for_pair in h d w

-- a query changes nothing
asked_changes : (s : State) (q : Query) → Changes s (afterwards s (asked s q))
unfolding asked
asked_changes s q = go (reply s.book q)
  where
    go : (a : Reply) → Changes s (afterwards s (shown s.tables a))
    go (queries.refused n) = unfold shown afterwards in stays
    go (the_facilities fs) = unfold shown afterwards in stays
    go (the_components cs) = unfold shown afterwards in stays
    go (the_version v) = unfold shown afterwards in stays
    go (the_pairs ps) = unfold shown afterwards in stays
    go (the_parts ps d) = unfold shown afterwards in stays

-- a command whose names are valid, as they are in every command that is read
pub carry_changes : (s : State) (k : Said) → valid_said k ≡ true → Changes s (afterwards s (carry s k))
unfolding carry valid_said puts
carry_changes s (SPEC c ps vs d) h =
    add_changes s _ _ (spec_valid c ps vs (and_l _ _ h) (and_l _ _ (and_r _ _ h)) (and_r _ _ (and_r _ _ h)))
    (spec_puts s.tables c ps vs d)
carry_changes s (MOD c is) h = add_changes s _ _ (mod_valid c is (and_l _ _ h) (and_r _ _ h)) (mod_puts s.tables c is)
carry_changes s (SYS c us ks) h =
    add_changes s _ _ (sys_valid c us ks (and_l _ _ h) (and_l _ _ (and_r _ _ h)) (and_r _ _ (and_r _ _ h)))
    (sys_puts s.tables c us ks)
carry_changes s (MODVAR c v rs i) h =
    add_changes s _ _ (modvar_valid c v rs i (and_l _ _ h) (and_l _ _ (and_r _ _ h)) (and_l _ _ (and_r _ _ (and_r _ _ h)))
    (and_r _ _ (and_r _ _ (and_r _ _ h)))) (modvar_puts s.tables c v rs i)
carry_changes s (SYSVAR c v ms) h =
    add_changes s _ _ (sysvar_valid c v ms (and_l _ _ h) (and_l _ _ (and_r _ _ h)) (and_r _ _ (and_r _ _ h)))
    (sysvar_puts s.tables c v ms)
carry_changes s (DELSPEC c) h = one_changes s _ c _ (λ d. told_changes s (DEL-SPEC d) refl)
carry_changes s (DELMOD c) h = one_changes s _ c _ (λ d. told_changes s (DEL-MOD d) refl)
carry_changes s (DELSYS c) h = one_changes s _ c _ (λ d. told_changes s (DEL-SYS d) refl)
carry_changes s (DELMODVAR c v) h = pair_changes s _ _ c v _ (λ d w. told_changes s (DEL-MODVAR d w) refl)
carry_changes s (DELSYSVAR c v) h = pair_changes s _ _ c v _ (λ d w. told_changes s (DEL-SYSVAR d w) refl)
carry_changes s (SUPPLIES c) h = one_changes s _ c _ (λ d. asked_changes s _)
carry_changes s (STANDARD c) h = one_changes s _ c _ (λ d. asked_changes s _)
carry_changes s (WHEREUSED c) h = one_changes s _ c _ (λ d. asked_changes s _)
carry_changes s (NEEDS c v) h = pair_changes s _ _ c v _ (λ d w. asked_changes s _)
carry_changes s (PARTS c v) h = pair_changes s _ _ c v _ (λ d w. asked_changes s _)
carry_changes s (CHOICE fs) h =
    by_test (λ x. Changes s (afterwards s x)) _ _ _ (λ e. asked_changes s _) (unfold afterwards in stays)
carry_changes s UNDEFINED h = asked_changes s _
carry_changes s UNUSED h = asked_changes s _
carry_changes s OUT h = unfold afterwards in stays
