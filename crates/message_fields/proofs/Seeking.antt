-- Laws of finding a field: the walk over a layout's row.
use Rattle.std.proofs.Common.{◌≡◌, ℕ, ◌+◌, ◌<◌, ◌≤◌, List, [], ◌∷◌, length, drop, get_or, cond, refl, sym, ap, ◌∙◌, suc, add-one, drop-cons, Bool, true, false, Option, None, Some, Ok, Err}
use Rattle.std.proofs.lemmas.List.{drop_all}
use Rattle.std.specs.Result.{result_ok}
use lib.Dec.{eqb}
use borrow.Author.Tests.{eq-eqb, ne_eqb}
use Rattle.wire.specs.Reading.{Outcome, read_field}
use Rattle.wire.specs.declared.Refused.{Refused}
use Rattle.wire.proofs.Parts.{field_refused}
use Rattle.message_layout.specs.Table.{Entered, field_of, entries_from}
use Rattle.message_layout.specs.Rows.{row_of}
use Rattle.message_layout.specs.declared.Source.{Source}
use Rattle.message_layout.specs.declared.Field.{Field}
use Rattle.message_fields.specs.Fields.{found, found_at, sought, field_in}
use Rattle.message_fields.specs.declared.Found.{Found}

-- ---- a row is searched as the fields of its layout are

abbrev pub row_sought : ℕ → List Field → List ℕ → Outcome → Option Found
row_sought r [] s o = None
row_sought r (f ∷ fs) s o = cond (eqb r f.role) (found f.kind s o) (row_sought r fs s (read_field (field_of f.kind) s o))

same : (r : ℕ) (es : List Entered) (s : List ℕ) (o : Outcome) → row_sought r (row_of es) s o ≡ sought r es s o
unfolding sought
same r [] s o = refl
same r (e ∷ es) s o = ap (cond (eqb r e.role) (found e.kind s o)) (same r es s (read_field (field_of e.kind) s o))

pub row-sought : (r : ℕ) (src : Source) (xs : List Field) → xs ≡ row_of (entries_from src) → (s : List ℕ) → row_sought r xs s (Ok 0) ≡ field_in r src s
row-sought r src xs e s = ap (λ (ys : List Field). row_sought r ys s (Ok 0)) e ∙ same r (entries_from src) s (Ok 0)

-- behind a field that is refused nothing is found
refused_sought : (r : ℕ) (fs : List Field) (s : List ℕ) (e : Refused) → row_sought r fs s (Err e) ≡ None
refused_sought r [] s e = refl
refused_sought r (f ∷ fs) s e = rw (field_refused (field_of f.kind) s e, refused_sought r fs s e) (either (eqb r f.role))
  where
    either : (b : Bool) → ◌≡◌ {A = Option Found} (cond b None None) None
    either true = refl
    either false = refl

-- ---- the walk: w says that what is sought is the same from place k on, which starts at p, as from the first

module _ (r : ℕ) (src : Source) (xs : List Field) (e : xs ≡ row_of (entries_from src)) (s : List ℕ) (k p : ℕ)
    (w : row_sought r (drop k xs) s (Ok p) ≡ row_sought r xs s (Ok 0)) where
  -- behind the last place
  pub walk_all : length xs ≤ k → None ≡ field_in r src s
  walk_all h = rw (← row-sought r src xs e s, ← w, drop_all k xs h) refl

  module _ (d : Field) (h : k < length xs) where
    at : row_sought r (get_or xs k d ∷ drop (suc k) xs) s (Ok p) ≡ row_sought r xs s (Ok 0)
    at = rw (drop-cons xs k d h) at w

    -- at a place whose role it is
    pub walk_found : r ≡ (get_or xs k d).role → Some (found_at (get_or xs k d).kind s p) ≡ field_in r src s
    walk_found z = let y = rw (eq-eqb r (get_or xs k d).role z) at at in y ∙ row-sought r src xs e s

    module _ (z : r ≡ (get_or xs k d).role → ⊥) (o : Outcome) (read : o ≡ read_field (field_of (get_or xs k d).kind) s (Ok p)) where
      onward : row_sought r (drop (suc k) xs) s o ≡ row_sought r xs s (Ok 0)
      onward = let y = rw (ne_eqb r (get_or xs k d).role z) at at in ap (row_sought r (drop (suc k) xs) s) read ∙ y

      pub walk_next : (q : ℕ) → o ≡ Ok q → row_sought r (drop (k + 1) xs) s (Ok q) ≡ row_sought r xs s (Ok 0)
      walk_next q ok = rw (add-one, ← ok) onward

      pub walk_refused : result_ok o ≡ None → None ≡ field_in r src s
      walk_refused stop = go o onward stop ∙ row-sought r src xs e s
        where
          go : (q : Outcome) → row_sought r (drop (suc k) xs) s q ≡ row_sought r xs s (Ok 0) → result_ok q ≡ None → None ≡ row_sought r xs s (Ok 0)
          go (Ok p) h n = cc
          go (Err x) h n = sym (refused_sought r (drop (suc k) xs) s x) ∙ h
