-- A run is its accepted single receives, then the one that stopped it.
use Rattle.std.specs.Prelude.{ℕ, zero, suc, ◌+◌, cond, List, [], ◌∷◌, eqb, length, drop}
use Rattle.link_rows.specs.Replies.{on_done, used_by, written_by}
use Rattle.link_rows.specs.declared.Endpoint.{Endpoint}
use Rattle.link_changes.specs.Outcome.{Outcome}
use Rattle.link_receive.specs.Receive.{receiving}
use Rattle.link_receive.specs.Run.{Run, took, stopped}

-- at most n single receives, until the bytes end or one is not answered 0: each works on what the last one left, the bytes after its
-- record, and the output after what it wrote
unfoldable pub singles : ℕ → Endpoint → List ℕ → List ℕ → List ℕ → List Outcome
singles zero e store bytes out = []
singles (suc n) e store bytes out =
    let o : Outcome = receiving e store bytes out in
    cond (eqb (length bytes) 0) []
    (o ∷ on_done o.reply (singles n o.endpoint o.store (drop (used_by o.reply) bytes) (drop (written_by o.reply) o.out)) [])

-- how many of them are accepted
unfoldable pub accepted_of : List Outcome → ℕ
accepted_of [] = 0
accepted_of (o ∷ os) = on_done o.reply 1 0 + accepted_of os

-- a run after these
unfoldable pub handled : Run → List Outcome → Run
handled s [] = s
handled s (o ∷ os) = handled (on_done o.reply (took s o) (stopped s o)) os
