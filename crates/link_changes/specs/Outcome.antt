-- What a call leaves, and the promise that it leaves it.
use Rattle.std.specs.Prelude.{◌≡◌, List, ℕ}
use Rattle.link_rows.specs.declared.Endpoint.{Endpoint}
use Rattle.link_rows.specs.declared.Answer.{Answer}
use Rattle.link_rows.specs.Replies.{Reply}

-- the reply, and the later endpoint, store and output
pub record Outcome : Type 0 where
  pub reply : Reply
  pub endpoint : Endpoint
  pub store : List ℕ
  pub out : List ℕ

-- a call that answers a and leaves store' and out' leaves the outcome o
pub record Leaves (o : Outcome) (a : Answer) (store' out' : List ℕ) : Type 0 where
  pub reply : a.reply ≡ o.reply
  pub endpoint : a.endpoint ≡ o.endpoint
  pub store : store' ≡ o.store
  pub out : out' ≡ o.out
