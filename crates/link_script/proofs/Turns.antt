-- The loop of a script: what holds at its head, and each turn.
use mathlib.Core.Path.{◌≡◌, refl, sym, ap, ◌∙◌}
use mathlib.Core.Bool.{true, false}
use mathlib.Core.List.{List, ◌++◌}
use Prim.Native.Nat.{ℕ, zero, suc, ◌+◌, ◌-◌, ◌<◌, ◌≤◌}
use native.Mathlib.Omega.{arith}
use lib.ListN.{length, take, length-drop}
use borrow.Rule.Slice.PartMut.{mid_of}
use Rattle.link_rows.proofs.Front.{tail_lent}
use Rattle.link_rows.specs.declared.Endpoint.{Endpoint}
use Rattle.link_script.specs.declared.Entry.{Entry}
use Rattle.std.specs.Prelude.{Option, Some, None}
use Rattle.link_script.specs.Script.{Head, entry_of, head_in, taken}
use Rattle.link_script.specs.Play.{Play, script_left, left_of, goes_on, next, play_from}
use Rattle.link_script.specs.Inner.{Fits, Performs}
use Rattle.link_script.proofs.Laws.{taken_fits, taken_none, taken_some}

-- a script that stands so
abbrev pub standing : ℕ → ℕ → ℕ → Endpoint → List ℕ → List ℕ → Play
standing entries used sent e store transcript = record { entries = entries; used = used; written = sent; world = record { endpoint = e; store = store }; transcript = transcript }

-- at the head of the loop, with `left` entries to go: the rest of the script from here is the whole script
pub record At (n : ℕ) (s₀ : Play) (script : List ℕ) (left : ℕ) (s : Play) : Type 0 where
  pub count : s.entries + left ≡ n
  pub within : s.used ≤ length script
  pub room : s.written ≤ length s.transcript
  pub store_long : length s.world.store ≡ length s₀.world.store
  pub transcript_long : length s.transcript ≡ length s₀.transcript
  pub same : play_from left s script ≡ play_from n s₀ script

stops : (m : ℕ) (s : Play) (script : List ℕ) → goes_on s script ≡ false → play_from (suc m) s script ≡ s
unfolding play_from
stops m s script h = rw h refl

goes : (m : ℕ) (s : Play) (script : List ℕ) → goes_on s script ≡ true → play_from (suc m) s script ≡ play_from m (next s script) script
unfolding play_from
goes m s script h = rw h refl

none : (s : Play) (script : List ℕ) → play_from zero s script ≡ s
unfolding play_from
none s script = refl

entry_length_lem : (bytes : List ℕ) → (entry_of bytes).available ≡ length bytes
unfolding entry_of
entry_length_lem bytes = refl

module _ (n : ℕ) (s₀ : Play) (script : List ℕ) (left : ℕ) (s : Play) (x : At n s₀ script left s) where
  -- no entry is left to perform
  pub at_end : left ≤ 0 → play_from n s₀ script ≡ s
  at_end h = let z : left ≡ zero = omega arith in sym x.same ∙ ap (λ (m : ℕ). play_from m s script) z ∙ none s script

  module _ (p : 0 < left) (r : Option Entry)
      (q : r ≡ taken (entry_of (mid_of s.used (length script - s.used) script)) (length (mid_of s.written (length s.transcript - s.written) s.transcript))) where
    some : left ≡ suc (left - 1)
    some = omega arith

    taken_is : r ≡ taken (entry_of (script_left s script)) (length (left_of s))
    taken_is = rw (tail_lent s.used script, tail_lent s.written s.transcript) at q

    -- the entry is not taken
    pub at_stop : r ≡ None → play_from n s₀ script ≡ s
    at_stop h = sym x.same ∙ ap (λ (m : ℕ). play_from m s script) some ∙ stops (left - 1) s script (taken_none (entry_of (script_left s script)) (length (left_of s)) (sym taken_is ∙ h))

    -- it is taken
    module _ (en : Entry) (h : r ≡ Some en) where
      goes_is : goes_on s script ≡ true
      goes_is = (taken_some _ _ en (sym taken_is ∙ h)).0

      head_is : head_in (length (script_left s script)) en ≡ entry_of (script_left s script)
      unfolding entry_of
      head_is = rw (entry_length_lem (script_left s script)) at (taken_some (entry_of (script_left s script)) (length (left_of s)) en (sym taken_is ∙ h)).1

      size_is : en.size ≡ (entry_of (script_left s script)).size
      size_is = ap (λ (e : Head). e.size) head_is

      room_is : en.room ≡ (entry_of (script_left s script)).room
      room_is = ap (λ (e : Head). e.room) head_is

      fit : (16 + en.size ≤ length (script_left s script)) × (20 + en.room ≤ length (left_of s))
      fit =
          let f = taken_fits (entry_of (script_left s script)) (length (left_of s)) goes_is in
          (omega (arith, f.0, size_is, entry_length_lem (script_left s script)), omega (arith, f.1, room_is))

      pub fits : Fits en (script_left s script) (left_of s)
      fits = record { head = head_is; whole = fit.0; room = fit.1 }

      pub inside : (s.used + (16 + en.size) ≤ length script) × (s.written + (20 + en.room) ≤ length s.transcript)
      inside =
          let i = x.within in
          let r = x.room in
          (omega (arith, fit.0, length-drop s.used script), omega (arith, fit.1, length-drop s.written s.transcript))

      module _ (e' : Endpoint) (store' z transcript' : List ℕ) (l : Performs s.world (script_left s script) (left_of s) e' store' z) (c : transcript' ≡ take s.written s.transcript ++ z)
          (u : length store' ≡ length s.world.store) (v : length transcript' ≡ length s.transcript) where
        next-is : next s script ≡ standing (s.entries + 1) (s.used + (16 + en.size)) (s.written + (20 + en.room)) e' store' transcript'
        unfolding next
        next-is = rw (c, l.endpoint, l.store, l.out, size_is, room_is) refl

        pub at_more : At n s₀ script (left - 1) (standing (s.entries + 1) (s.used + (16 + en.size)) (s.written + (20 + en.room)) e' store' transcript')
        at_more = record {
          count = omega (arith, some, x.count);
          within = inside.0;
          room = omega (arith, inside.1, v);
          store_long = u ∙ x.store_long;
          transcript_long = v ∙ x.transcript_long;
          same = sym (goes (left - 1) s script goes_is ∙ ap (λ (r : Play). play_from (left - 1) r script) next-is) ∙ ap (λ (m : ℕ). play_from m s script) (sym some) ∙ x.same;
        }
