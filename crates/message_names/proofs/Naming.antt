-- The name at a place of a layout.
use Rattle.std.proofs.Common.{◌≡◌, ℕ, zero, suc, List, [], ◌∷◌, get_or, map, length, ◌<◌, ◌≤◌, refl, sym, ap, ◌∙◌, Bor}
use Rattle.std.proofs.lemmas.List.{get_or_past}
use Rattle.std.proofs.Math.ListN.{get_or-map}
use Rattle.std.specs.List.{HoldsAt}
use Prim.Native.String.{String}
use Rattle.message_layout.specs.Table.{Entered}
use Rattle.message_names.specs.Names.{pieces, piece_name, piece_names, names_in, name_in, told}

piece-at : (n : String) (ps : List String) (j : ℕ) → piece_name n ps j ≡ get_or (piece_names n ps) j []
piece-at n [] j = refl
piece-at n (p ∷ ps) zero = refl
piece-at n (p ∷ ps) (suc j) = piece-at n ps j

name_at : (es : List Entered) (k j : ℕ) → name_in es k j ≡ get_or (get_or (names_in es) k []) j []
name_at [] k j = refl
name_at (e ∷ es) zero j = piece-at e.name (pieces e.kind) j
name_at (e ∷ es) (suc k) j = name_at es k j

-- a table of the code that says the names of a layout, at field k and its piece j
module _ (t : Bor (List (Bor (List (Bor (List ℕ)))))) (es : List Entered) (h : told t ≡ names_in es) (k j : ℕ) where
  no_names : Bor (List (Bor (List ℕ)))
  no_names = record { ref_ptr = t.ref_ptr; now = [] }

  no_name : Bor (List ℕ)
  no_name = record { ref_ptr = t.ref_ptr; now = [] }

  named : name_in es k j ≡ (get_or (get_or t.now k no_names).now j no_name).now
  unfolding no_names no_name
  named =
      let a = get_or-map (λ (f : Bor (List (Bor (List ℕ)))). map (λ (p : Bor (List ℕ)). p.now) f.now) t.now k no_names in
      let b = get_or-map (λ (p : Bor (List ℕ)). p.now) (get_or t.now k no_names).now j no_name in
      name_at es k j ∙ ap (λ (x : List (List (List ℕ))). get_or (get_or x k []) j []) (sym h) ∙ ap (λ (x : List (List ℕ)). get_or x j []) a ∙ b

  -- behind its last field there is none, and behind the last piece of a field
  pub past_fields : length t.now ≤ k → [] ≡ name_in es k j
  unfolding no_names no_name
  past_fields l = sym (named ∙ rw (get_or_past t.now k no_names l))

  module _ (x : Bor (List (Bor (List ℕ)))) (within : (k < length t.now) × HoldsAt (λ y. x ≡ y) t.now k) where
    pub past_pieces : length x.now ≤ j → [] ≡ name_in es k j
    unfolding no_names no_name
    past_pieces l = sym (named ∙ rw (← within.1 no_names) (rw (get_or_past x.now j no_name l)))

    pub at_piece : (y : Bor (List ℕ)) → (j < length x.now) × HoldsAt (λ z. y ≡ z) x.now j → y.now ≡ name_in es k j
    unfolding no_names no_name
    at_piece y w = sym (named ∙ rw (← within.1 no_names) (rw (← w.1 no_name)))
