-- Records of the link that are written read back as they were.
use Prim.Native.Nat.{ℕ, ◌<◌}
use mathlib.Core.List.{List}
use native.Mathlib.Omega.{arith}
use Rattle.link_rows.specs.Limits.{OPEN, CLOSE, CLOSEACK}
use Rattle.link_calls.proofs.Back.{short_back, request_back, transmit_back, open_sends, close_sends, request_sends, transmit_sends}
use Rattle.link_history.specs.Calls.{World}
use Rattle.claims.specs.Claims.{RecordsBack, SentBack}

pub records_back_lem : (id : ℕ) → id < 65536 → (behind : List ℕ) → RecordsBack id behind
records_back_lem id h behind = record {
  OPEN = short_back OPEN id behind h (λ x. omega arith) (λ x. omega arith);
  CLOSE = short_back CLOSE id behind h (λ x. omega arith) (λ x. omega arith);
  CLOSEACK = short_back CLOSEACK id behind h (λ x. omega arith) (λ x. omega arith);
  REQUEST = λ n k. request_back id n behind h k;
  TRANSMIT = λ bytes k. transmit_back id bytes behind h k;
}

pub sent_back_lem : (w : World) (id : ℕ) (out : List ℕ) → SentBack w id out
sent_back_lem w id out = record {
  opening = open_sends w.endpoint w.store id out;
  close = λ s. close_sends w.endpoint w.store id out s;
  request = λ s k. request_sends w.endpoint w.store id out s k;
  transmit = λ s bytes. transmit_sends w.endpoint w.store id out s bytes;
}
