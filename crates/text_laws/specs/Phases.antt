-- Numbers that are put into a book one after the other, and the mark of the standard version.
use Rattle.std.specs.Prelude.{Bool, false, true, List, [], ◌∷◌, map, ◌≡◌, refl, ℕ}
use Rattle.std.proofs.Common.{inl, ◌∙◌, ap, ap₂, subst, sym}
use Rattle.std.proofs.Math.Logic.{inr}
use Rattle.model.specs.Book.{Book}
use Rattle.model.specs.Commands.{Command, after}
use Rattle.model.specs.Lists.{elem, once}
use Rattle.model.specs.PlainBook.{answer}
use Rattle.sets.specs.TestLaws.{=?-in, =?-not, =?-out, =?-same, and_l, and_r, bool?, clash, fails, if-false, if-true, not_out}
use Rattle.sets.specs.TestLaws.{or-false, or_l, or_out, or_r}
use Rattle.text.specs.Bytes.{same}
use Rattle.text.specs.Language.{Name, Said, standards}
use Rattle.text.specs.Tables.{Tables}
use Rattle.text_laws.specs.Numbered.{Numbered}
use Rattle.text_laws.specs.Order.{InTurn, none_left, one_more_lem}
use Rattle.text_laws.specs.ReadsBack.{Writable, flag}
use Rattle.text_laws.specs.Renamed.{Renaming}
use Rattle.text_laws.specs.Runs.{Accepts, go, stop}
use Rattle.text_laws.specs.TextLaws.{same_refl}

pub pushed : (ℕ → ℕ) → List ℕ → List ℕ → List ℕ
pushed new_c [] l = l
pushed new_c (c ∷ cs) l = pushed new_c cs (new_c c ∷ l)

pushed_keeps : (new_c : ℕ → ℕ) (cs l : List ℕ) (m : ℕ) → elem m l ≡ true → elem m (pushed new_c cs l) ≡ true
unfolding pushed elem
pushed_keeps new_c [] l m e = e
pushed_keeps new_c (c ∷ cs) l m e = pushed_keeps new_c cs (new_c c ∷ l) m (or_r _ _ e)

pub pushed_in : (new_c : ℕ → ℕ) (cs l : List ℕ) (n : ℕ) → elem n cs ≡ true → elem (new_c n) (pushed new_c cs l) ≡ true
unfolding pushed elem
pushed_in new_c [] l n e = clash e refl
pushed_in new_c (c ∷ cs) l n e =
    elim (or_out _ _ e) [
      | inl q ↦ pushed_keeps new_c cs (new_c c ∷ l) (new_c n) (unfold elem in
          or_l _ _ (=?-in _ _ (ap new_c (=?-out _ _ q))))
      | inr q ↦ pushed_in new_c cs (new_c c ∷ l) n q
    ]

-- the number c goes in, with those of l in: its command is accepted, and gives the book with c in
pub record Step (T : Tables) (new_c : ℕ → ℕ) (bk : List ℕ → Book) (mk : ℕ → Said) (l : List ℕ) (c : ℕ) : Type 0 where
  pub K : Command
  pub writable : Writable (mk c)
  pub numbered : Numbered T (mk c) K
  pub yes' : answer (bk l) K ≡ 0
  pub gives : after (bk l) K ≡ bk (new_c c ∷ l)

pub phase : (T : Tables) (new_c : ℕ → ℕ) (bk : List ℕ → Book) (mk : ℕ → Said) (Can : List ℕ → ℕ → Type 0)
    → ((l : List ℕ) (c : ℕ) → Can l c → Step T new_c bk mk l c)
    → {l cs : List ℕ} → InTurn new_c Can l cs → Accepts T (bk l) (map mk cs) (bk (pushed new_c cs l))
unfolding pushed
phase T new_c bk mk Can h none_left = stop
phase T new_c bk mk Can h (one_more_lem {l = l} {c = c} {cs = cs} k r) =
    let q = h l c k in
    go q.K q.writable q.numbered q.yes'
    (subst (λ (z : Book). Accepts T z (map mk cs) (bk (pushed new_c cs (new_c c ∷ l)))) (sym q.gives)
    (phase T new_c bk mk Can h r))

-- a list without repetition goes in
pub list_in_turn : {old_c new_c : ℕ → ℕ} {L : ℕ} {Use : ℕ → Type 0} → Renaming old_c new_c L Use → (test : ℕ → Bool)
    → ((n : ℕ) → test n ≡ true → Use n) → (cs l : List ℕ) → once cs ≡ true
    → ((n : ℕ) → elem n cs ≡ true → (test n ≡ true) × (elem (new_c n) l ≡ false))
    → InTurn new_c (λ l c. (test c ≡ true) × (elem (new_c c) l ≡ false)) l cs
unfolding once elem
list_in_turn R test u [] l o h = none_left
list_in_turn {old_c} {new_c} R test u (c ∷ cs) l o h =
    one_more_lem (h c (or_l _ _ (=?-same c))) (list_in_turn R test u cs (new_c c ∷ l) (and_r _ _ o) (λ n e. (
      (h n (or_r _ _ e)).0,
      or-false _ _ (=?-not (new_c n) (new_c c) (λ z.
          clash {A = ⊥} (subst (λ (k : ℕ). elem k cs ≡ true) (sym (R.back n (u n (h n (or_r _ _ e)).0)) ∙ ap old_c z
          ∙ R.back c (u c (h c (or_l _ _ (=?-same c))).0)) e) (not_out _ (and_l _ _ o)))) ∙ (h n (or_r _ _ e)).1,
    )))

-- ---- the standard version's mark

no_mark : (N : ℕ → Name) (h : ℕ → List Name) (d : ℕ) (l : List ℕ) → ((n : ℕ) → elem n l ≡ true → same (N n) (N d) ≡ false)
    → standards (map (flag (N d)) (map (λ v. (N v, h v)) l)) ≡ []
unfolding standards flag elem
no_mark N h d [] k = refl
no_mark N h d (x ∷ xs) k = if-false _ _ _ (k x (or_l _ _ (=?-same x))) ∙ no_mark N h d xs (λ n e. k n (or_r _ _ e))

pub one_mark : (N : ℕ → Name) (h : ℕ → List Name) (d : ℕ) (l : List ℕ) → once l ≡ true → elem d l ≡ true
    → ((n : ℕ) → elem n l ≡ true → same (N n) (N d) ≡ true → n ≡ d)
    → standards (map (flag (N d)) (map (λ v. (N v, h v)) l)) ≡ N d ∷ []
unfolding standards flag elem once
one_mark N h d [] o e k = clash e refl
one_mark N h d (x ∷ xs) o e k =
    elim (bool? (same (N x) (N d))) [
      | inl q ↦ (let z = k x (or_l _ _ (=?-same x)) q in
          if-true _ _ _ q ∙ ap₂ (λ (a : Name) (r : List Name). a ∷ r) (ap N z)
          (no_mark N h d xs (λ n w. fails _
          (λ y. clash {A = ⊥} (subst (λ (i : ℕ). elem i xs ≡ true) (k n (or_r _ _ w) y ∙ sym z) w)
          (not_out _ (and_l _ _ o))))))
      | inr q ↦ if-false _ _ _ q ∙ one_mark N h d xs (and_r _ _ o)
          (elim (or_out _ _ e) [
            | inl z ↦ clash (ap (λ (i : ℕ). same (N i) (N d)) (sym (=?-out _ _ z))
                ∙ same_refl (N d)) q
            | inr z ↦ z
          ])
          (λ n w y. k n (or_r _ _ w) y)
    ]
