-- Records that differ in other sessions' data and in nobody's bytes alone have the same head, as far as the record goes, and the same
-- data where it is this session's.
use mathlib.Core.Path.{◌≡◌, refl, sym, ap, ◌∙◌}
use mathlib.Core.Bool.{Bool, true, false, not, cond, ◌&&◌, ◌||◌, and-false, or-true}
use mathlib.Core.List.{List}
use Prim.Native.Nat.{ℕ, zero, suc, ◌+◌, ◌<◌, ◌≤◌}
use native.Mathlib.Omega.{arith}
use borrow.Author.Tests.{eqb-true}
use lib.Dec.{leb}
use lib.ListN.{length, take, drop, get_or}
use lib.Seq.{length-take-le, drop_at, take-add, get_or-take}
use Rattle.link_rows.specs.Limits.{OPEN, CLOSE, CLOSEACK, REQUEST, TRANSMIT}
use Rattle.link_rows.specs.declared.Record.{Record}
use Rattle.link_record_replies.specs.Records.{is, has_count, is_known, not_positive, size_of}
use Rattle.link_bytes.specs.Records.{head_of, data_of}
use Rattle.link_history.specs.Ledger.{Ledger, latest_of, receives}
use Rattle.link_history.specs.Statement.{another, is_others, extent_of, visible, AlikeRecords, AlikeRuns}
use Rattle.link_history.proofs.Trimmed.{trimmed, same_trimmed}

-- this session's data is not another's
own_not : (s : ℕ) (l : Ledger) (h : Record) → another s (latest_of l h.id) ≡ false → is_others s l h ≡ false
own_not s l h n = rw n (and-false (is TRANSMIT h && leb 7 h.available && not (not_positive h.count)))

-- as many bytes as are visible
far : ℕ → Ledger → Record → ℕ
far s l h = cond (is_others s l h) 7 (extent_of h)

least_seven : (t : Bool) (n : ℕ) → 7 ≤ cond t (7 + n) 7
least_seven true n = omega arith
least_seven false n = omega arith

least_three : (c t : Bool) (n : ℕ) → 3 ≤ cond (not c) 3 (cond t (7 + n) 7)
least_three false t n = omega arith
least_three true t n = omega (arith, least_seven t n)

least_one : (k c t : Bool) (n : ℕ) → 1 ≤ cond (not k) 1 (cond (not c) 3 (cond t (7 + n) 7))
least_one false c t n = omega arith
least_one true c t n = omega (arith, least_three c t n)

-- of each record the opcode is visible, of a known one the identifier too, and of one with a count the count
module _ (s : ℕ) (l : Ledger) (h : Record) where
  far_least : (k : ℕ) → k ≤ 7 → k ≤ extent_of h → k ≤ far s l h
  unfolding far
  far_least k seven extent = go (is_others s l h)
    where
      go : (p : Bool) → k ≤ cond p 7 (extent_of h)
      go true = seven
      go false = extent

  far_one : 1 ≤ far s l h
  far_one = far_least 1 (omega arith) (least_one (is_known h) (has_count h) (is TRANSMIT h && not (not_positive h.count)) h.count)

  far_three : is_known h ≡ true → 3 ≤ far s l h
  far_three k = far_least 3 (omega arith) (rw k (least_three (has_count h) (is TRANSMIT h && not (not_positive h.count)) h.count))

  far_seven : has_count h ≡ true → 7 ≤ far s l h
  far_seven c =
      let k : is_known h ≡ true = rw c (or-true (is OPEN h || is CLOSE h || is CLOSEACK h)) in
      far_least 7 (omega arith) (rw (k, c) (least_seven (is TRANSMIT h && not (not_positive h.count)) h.count))

-- this session's data is visible
far_data : (s : ℕ) (l : Ledger) (h : Record) → is TRANSMIT h ≡ true → not_positive h.count ≡ false → another s (latest_of l h.id) ≡ false → far s l h ≡ 7 + h.count
unfolding far
far_data s l h te p n = rw (own_not s l h n, eqb-true h.opcode TRANSMIT te, p) refl

-- the data of a whole TRANSMIT
data_same : (b d : List ℕ) (k : ℕ) → 7 ≤ length b → 7 ≤ length d → take (7 + k) b ≡ take (7 + k) d → take k (drop 7 b) ≡ take k (drop 7 d)
data_same b d k lb ld e =
    sym (drop_at (take 7 b) (take k (drop 7 b)) 7 (length-take-le 7 b lb))
    ∙ ap (drop 7) (sym (take-add 7 k b) ∙ e ∙ take-add 7 k d)
    ∙ drop_at (take 7 d) (take k (drop 7 d)) 7 (length-take-le 7 d ld)

module _ (s : ℕ) (l : Ledger) (b d : List ℕ) (ld : length b ≡ length d) (h : AlikeRecords s l b d) where
  seen_same : take (far s l (head_of b)) b ≡ take (far s l (head_of d)) d
  unfolding far visible
  seen_same = h

  -- a byte that is visible in both
  byte_same : (i : ℕ) → i < far s l (head_of b) → i < far s l (head_of d) → get_or b i 0 ≡ get_or d i 0
  byte_same i p q = sym (get_or-take (far s l (head_of b)) b i 0 p) ∙ ap (λ (z : List ℕ). get_or z i 0) seen_same ∙ get_or-take (far s l (head_of d)) d i 0 q

  opcode_same : (head_of b).opcode ≡ (head_of d).opcode
  unfolding head_of
  opcode_same = byte_same 0 (omega (arith, far_one s l (head_of b))) (omega (arith, far_one s l (head_of d)))

  id_same : is_known (head_of d) ≡ true → (head_of b).id ≡ (head_of d).id
  unfolding head_of
  id_same k = rw (at 1 (omega arith), at 2 (omega arith)) refl
    where
      at : (i : ℕ) → i < 3 → get_or b i 0 ≡ get_or d i 0
      at i p = byte_same i (omega (arith, far_three s l (head_of b) (rw opcode_same k))) (omega (arith, far_three s l (head_of d) k))

  count_same : has_count (head_of d) ≡ true → (head_of b).count ≡ (head_of d).count
  unfolding head_of
  count_same c = rw (at 3 (omega arith), at 4 (omega arith), at 5 (omega arith), at 6 (omega arith)) refl
    where
      at : (i : ℕ) → i < 7 → get_or b i 0 ≡ get_or d i 0
      at i p = byte_same i (omega (arith, far_seven s l (head_of b) (rw opcode_same c))) (omega (arith, far_seven s l (head_of d) c))

  available_same : (head_of b).available ≡ (head_of d).available
  unfolding head_of
  available_same = ld

  pub alike_head : trimmed (head_of b) ≡ trimmed (head_of d)
  alike_head = same_trimmed (head_of b) (head_of d) available_same opcode_same id_same count_same

  -- this session's data of an accepted record
  pub alike_data : 7 + (head_of b).count ≤ length b → is TRANSMIT (head_of b) ≡ true → not_positive (head_of b).count ≡ false → another s (latest_of l (head_of b).id) ≡ false → data_of (head_of b) b ≡ data_of (head_of b) d
  alike_data whole te p n =
      let td : is TRANSMIT (head_of d) ≡ true = rw (← opcode_same) te in
      let cd : has_count (head_of d) ≡ true = rw td (or-true (is REQUEST (head_of d))) in
      let kd : is_known (head_of d) ≡ true = rw cd (or-true (is OPEN (head_of d) || is CLOSE (head_of d) || is CLOSEACK (head_of d))) in
      let fb : far s l (head_of b) ≡ 7 + (head_of b).count = far_data s l (head_of b) te p n in
      let fd : far s l (head_of d) ≡ 7 + (head_of b).count = far_data s l (head_of d) td (rw (← count_same cd) p) (rw (← id_same kd) n) ∙ ap (λ (z : ℕ). 7 + z) (sym (count_same cd)) in
      data_same b d (head_of b).count (omega arith) (omega arith) (ap (λ (z : ℕ). take z b) (sym fb) ∙ seen_same ∙ ap (λ (z : ℕ). take z d) fd)

-- runs are like themselves
pub runs_same : (s : ℕ) (n : ℕ) (l : Ledger) (number : ℕ) (b : List ℕ) → AlikeRuns s l n number b b
unfolding AlikeRuns
runs_same s zero l number b = λ q. refl
runs_same s (suc n) l number b = (refl, runs_same s n (receives 0 b l) number (drop (size_of (head_of b)) b))
