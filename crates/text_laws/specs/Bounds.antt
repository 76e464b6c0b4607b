-- The bounds on lists, sessions and digits bound nothing.
use Rattle.std.specs.Prelude.{Bool, false, true, [], ◌++◌, ◌∷◌, ◌≡◌, refl, ◌%◌, ◌+◌, ◌/◌, ◌<◌, ◌≤◌, suc, zero, ℕ, length}
use Rattle.std.proofs.Math.Option.{Option, none, some}
use Rattle.std.proofs.Common.{◌∙◌, ap, sym, le_refl, arith}
use Rattle.model.specs.Maps.{and_then}
use Rattle.sets.specs.TestLaws.{<?_no}
use Rattle.sets.specs.Tests.{◌<?◌, if?◌then◌else◌}
use Rattle.text.specs.Bytes.{Text}
use Rattle.text.specs.Language.{Read, Reader, ◌>>=◌, ahead, command, command_of, give, list_in, list_of, over, said, when, wrong}
use Rattle.text.specs.Session.{State, afterwards, carry, decimal, digits, lines, on_read, session_from}
use Rattle.text.specs.Tokens.{Token, next_token, skip, skipped, token_at}
use Rattle.text_laws.specs.Left.{Left, LeftO, left_length}
use Rattle.text_laws.specs.Takes.{LeftR, Takes, ahead_takes, command_left, list_in_takes}

-- ---- the bound on a list bounds nothing

none_of_nothing : {A : Type 0} (o : Option (A × Text)) → LeftO 1 [] o → o ≡ none
none_of_nothing none l = refl
none_of_nothing (some x) l = absurd (let h = left_length l in omega arith)

nothing : (t : Text) → length t ≤ 0 → t ≡ []
nothing [] h = refl
nothing (c ∷ cs) h = absurd (omega arith)

when_same : {A : Type 0} (b : Bool) (x : A) (p q : Reader A) (t : Text) → p t ≡ q t → when b x p t ≡ when b x q t
unfolding when
when_same true x p q t e = e
when_same false x p q t e = refl

bind_same : {A B : Type 0} (t : Text) (o : Option (A × Text)) (n : ℕ) (f g : A → Reader B) → LeftO n t o
    → ((a : A) (u : Text) → Left n t u → f a u ≡ g a u) → and_then o (λ x. f x.0 x.1) ≡ and_then o (λ x. g x.0 x.1)
unfolding and_then
bind_same t none n f g l h = refl
bind_same t (some x) n f g l h = h x.0 x.1 l

list_of_nothing : {A : Type 0} (n : ℕ) (k : Token) (p : Reader A) → Takes 1 p → list_in n k p [] ≡ none
list_of_nothing n k p e = none_of_nothing (list_in n k p []) ((list_in_takes n k p e).at [])

pub list_enough : {A : Type 0} (k : Token) (p : Reader A) → Takes 1 p → (n m : ℕ) (t : Text) → length t ≤ n → length t ≤ m
    → list_in n k p t ≡ list_in m k p t
unfolding list_in ◌>>=◌
list_enough k p e zero zero t a b = refl
list_enough k p e zero (suc m) t a b = sym (ap (λ (z : Text). list_in (suc m) k p z) (nothing t a) ∙ list_of_nothing (suc m) k p e)
list_enough k p e (suc n) zero t a b = ap (λ (z : Text). list_in (suc n) k p z) (nothing t b) ∙ list_of_nothing (suc n) k p e
list_enough k p e (suc n) (suc m) t a b =
    bind_same t (p t) 1 _ _ (e.at t) (λ x u l. let i = left_length l in
    bind_same u (ahead k u) 0 _ _ ((ahead_takes k).at u) (λ on v j. let i' = left_length j in
    ap (λ (o : Option _). and_then o (λ y. give (x ∷ y.0) y.1))
    (when_same on [] (list_in n k p) (list_in m k p) v (list_enough k p e n m v (omega arith) (omega arith)))))

-- ---- the bound on a session bounds nothing

read_same : (f g : State → Text → Text × State) (i : ℕ) (s : State) (t : Text) (r : Read) → LeftR 1 t r
    → ((s : State) (u : Text) → length u < length t → f s u ≡ g s u) → on_read f i s r ≡ on_read g i s r
unfolding on_read
read_same f g i s t over l h = refl
read_same f g i s t wrong l h = refl
read_same f g i s t (said k u) l h =
    ap (λ (x : Text × State). (lines i (carry s k) ++ x.0, x.1))
    (h (afterwards s (carry s k)) u (let j = left_length l in omega arith))

none_read : (f : State → Text → Text × State) (i : ℕ) (s : State) → on_read f i s (command []) ≡ ([], s)
unfolding on_read command command_of next_token skip skipped token_at
none_read f i s = refl

pub session_enough : (n m i : ℕ) (s : State) (t : Text) → length t ≤ n → length t ≤ m → session_from n i s t ≡ session_from m i s t
unfolding session_from
session_enough zero zero i s t a b = refl
session_enough zero (suc m) i s t a b = sym (ap (λ (z : Text). session_from (suc m) i s z) (nothing t a) ∙ none_read _ i s)
session_enough (suc n) zero i s t a b = ap (λ (z : Text). session_from (suc n) i s z) (nothing t b) ∙ none_read _ i s
session_enough (suc n) (suc m) i s t a b = read_same _ _ i s t (command t) (command_left t)
    (λ s' u l. session_enough n m (suc i) s' u (omega arith) (omega arith))

-- ---- the laws without a bound, for code to follow

pub list_step : {A : Type 0} (k : Token) (p : Reader A) → Takes 1 p → (t : Text)
    → list_of k p t ≡ (p >>= (λ x. ahead k >>= (λ on. when on [] (list_of k p) >>= (λ xs. give (x ∷ xs))))) t
unfolding list_of list_in ◌>>=◌
list_step k p e t =
    list_enough k p e (length t) (suc (length t)) t (le_refl _) (omega arith)
    ∙ bind_same t (p t) 1 _ _ (e.at t) (λ x u l. let i = left_length l in
    bind_same u (ahead k u) 0 _ _ ((ahead_takes k).at u) (λ on v j. let i' = left_length j in
    ap (λ (o : Option _). and_then o (λ y. give (x ∷ y.0) y.1))
    (when_same on [] (list_in (length t) k p) (λ w. list_in (length w) k p w) v
    (list_enough k p e (length t) (length v) v (omega arith) (le_refl _)))))

pub session_step_lem : (i : ℕ) (s : State) (t : Text)
    → session_from (length t) i s t ≡ on_read (λ s' u. session_from (length u) (suc i) s' u) i s (command t)
unfolding session_from
session_step_lem i s t =
    session_enough (length t) (suc (length t)) i s t (le_refl _) (omega arith)
    ∙ read_same _ _ i s t (command t) (command_left t)
    (λ s' u l. session_enough (length t) (length u) (suc i) s' u (omega arith) (le_refl _))

else_cong : {A : Type 0} (t : Bool) (x : A) {y y' : A} → (t ≡ false → y ≡ y') → (if? t then x else y) ≡ (if? t then x else y')
unfolding if?◌then◌else◌
else_cong true x h = refl
else_cong false x h = h refl

digits_step : (k n : ℕ) → digits (suc k) n ≡ (if? n <? 10 then (48 + n) ∷ [] else digits k (n / 10) ++ ((48 + n % 10) ∷ []))
unfolding digits
digits_step k n = refl

digits_enough : (k m n : ℕ) → n < k → n < m → digits k n ≡ digits m n
digits_enough zero m n a b = absurd (omega arith)
digits_enough (suc k) zero n a b = absurd (omega arith)
digits_enough (suc k) (suc m) n a b =
    digits_step k n ∙ else_cong (n <? 10) _ (λ e. let h = <?_no n 10 e in
    ap (λ (w : Text). w ++ ((48 + n % 10) ∷ [])) (digits_enough k m (n / 10) (omega arith) (omega arith)))
    ∙ sym (digits_step m n)

pub decimal_step : (n : ℕ) → decimal n ≡ (if? n <? 10 then (48 + n) ∷ [] else decimal (n / 10) ++ ((48 + n % 10) ∷ []))
unfolding decimal
decimal_step n =
    digits_step n n ∙ else_cong (n <? 10) _ (λ e. let h = <?_no n 10 e in
    ap (λ (w : Text). w ++ ((48 + n % 10) ∷ [])) (digits_enough n (suc (n / 10)) (n / 10) (omega arith) (omega arith)))
