-- Laws of the whole text: the lines of specs, modules and systems.
use mathlib.Core.List.{List, [], ◌++◌, ◌∷◌, append_assoc, append-nil, map, map-map}
use Rattle.std.proofs.Common.{◌∙◌}
use Rattle.std.specs.Prelude.{◌≡◌, refl, ℕ}
use Rattle.std.proofs.Math.Path.{ap, ap₂, sym}
use Rattle.model.specs.Book.{Book, components, is_module, specified}
use Rattle.names.specs.Stored.{Rows, table_of, tables_of}
use Rattle.sets.specs.Sets.{Set, below}
use Rattle.text.specs.Bytes.{Text}
use Rattle.text.specs.Language.{Said}
use Rattle.text.specs.Tables.{Table, joined}
use Rattle.text.specs.Written.{as_commands, by_name, line, mod_of, parted, spec_of, sys_of, systems_in_order, written}
use Rattle.write_bytes.specs.ByName.{listed}
use Rattle.write_line.specs.ComponentLaws.{below_same}
use Rattle.write_line.specs.Lines.{system_lines}
use Rattle.write_version.specs.ListedLaws.{listed_is}
use Rattle.write_version.specs.Pieces.{led_by}

parted_joined : (l : List Text) → parted [] l ≡ joined l
unfolding parted joined
parted_joined [] = refl
parted_joined (x ∷ []) = sym (append-nil x)
parted_joined (x ∷ (y ∷ ys)) = ap (λ (w : Text). x ++ w) (parted_joined (y ∷ ys))

map-append : {A B : Type 0} (f : A → B) (xs ys : List A) → map f (xs ++ ys) ≡ map f xs ++ map f ys
map-append f [] ys = refl
map-append f (x ∷ xs) ys = ap (λ l. f x ∷ l) (map-append f xs ys)

joined_append : (xs ys : List Text) → joined (xs ++ ys) ≡ joined xs ++ joined ys
unfolding joined
joined_append [] ys = refl
joined_append (x ∷ xs) ys = ap (λ (w : Text). x ++ w) (joined_append xs ys) ∙ sym (append_assoc x (joined xs) (joined ys))

-- the lines of a set of the components
lines_of : (f : ℕ → Text) (t : Table) (a : Set) {s : Set} → s ≡ below components a
    → led_by [] [] (map f (by_name t components s)) ≡ joined (map f (by_name t components a))
lines_of f t a {s = s} e =
    listed_is [] f t components s ∙ unfold listed in parted_joined _
    ∙ ap (λ (l : List ℕ). joined (map f l)) (ap (by_name t components) e ∙ below_same t components a)

commands_text : (xs ys zs : List Said)
    → joined (map line (xs ++ (ys ++ zs))) ≡ joined (map line xs) ++ (joined (map line ys) ++ joined (map line zs))
commands_text xs ys zs =
    ap joined (map-append line xs (ys ++ zs) ∙ ap (λ (l : List Text). map line xs ++ l) (map-append line ys zs))
    ∙ joined_append (map line xs) (map line ys ++ map line zs)
    ∙ ap (λ (w : Text). joined (map line xs) ++ w) (joined_append (map line ys) (map line zs))

module _ (b : Book) (cs vs fs is : Rows) where
  text_parts : joined (map (λ c. line (spec_of b (tables_of cs vs fs is) c)) (by_name (table_of components cs) components (specified b.specs)))
      ++ (joined (map (λ c. line (mod_of b (tables_of cs vs fs is) c)) (by_name (table_of components cs) components (is_module b.modules)))
      ++ system_lines b (tables_of cs vs fs is))
      ≡ written b (tables_of cs vs fs is)
  unfolding written as_commands system_lines tables_of
  text_parts =
      let t = tables_of cs vs fs is in
      let ss = by_name (table_of components cs) components (specified b.specs) in
      let ms = by_name (table_of components cs) components (is_module b.modules) in
      let ys = systems_in_order b t in
      sym (commands_text (map (spec_of b t) ss) (map (mod_of b t) ms) (map (sys_of b t) ys)
      ∙ ap₂ (λ (v w : Text). v ++ w) (ap joined (map-map line (spec_of b t) ss))
      (ap₂ (λ (v w : Text). v ++ w) (ap joined (map-map line (mod_of b t) ms)) (ap joined (map-map line (sys_of b t) ys))))

  pub text_is : {s m : Set} → s ≡ below components (specified b.specs) → m ≡ below components (is_module b.modules)
      → led_by [] [] (map (λ c. line (spec_of b (tables_of cs vs fs is) c)) (by_name (table_of components cs) components s))
      ++ (led_by [] [] (map (λ c. line (mod_of b (tables_of cs vs fs is) c)) (by_name (table_of components cs) components m))
      ++ system_lines b (tables_of cs vs fs is))
      ≡ written b (tables_of cs vs fs is)
  text_is {s = s} {m = m} d e =
      ap₂ (λ (x y : Text). x ++ (y ++ system_lines b (tables_of cs vs fs is))) (lines_of _ _ _ d) (lines_of _ _ _ e) ∙ text_parts
