-- The replies to our calls: document 01's table of link replies, a line for each test, in its order.
-- They are made of the endpoint, the call's numbers and lengths alone: of the store, the output and the data to transmit only the
-- length is known here.
use Rattle.std.specs.Prelude.{Result, ℕ, ◌+◌, min, not, ◌||◌, ltb, eqb}
use Rattle.link_rows.specs.Limits.{short_length, long_length, row_length, store_length}
use Rattle.link_rows.specs.Rows.{is_closed, is_open, is_served, is_ours, row_for, is_spent, next_session}
use Rattle.link_rows.specs.Rules.{Rules}
use Rattle.link_rows.specs.Replies.{refuse, Reply, done}
use Rattle.link_rows.specs.declared.Endpoint.{Endpoint}
use Rattle.link_rows.specs.declared.Refusal.{Refusal}
use Rattle.link_rows.specs.declared.Refusal.TheVariants.{StoreLength, RowRules, LinkDown, NotServed, OtherHalf, NotClosed, SessionsSpent, WrongSession, NotOpen, Empty, AboveRoom, AboveOutput, OutputShort}

-- 2 and 3: the store's length, the row rules
unfoldable pub checked : {A : Type 0} → Endpoint → ℕ → Result A Refusal → Result A Refusal
checked e store_len rest =
    refuse StoreLength (not (eqb store_len store_length))
    (refuse RowRules (not (Rules e))
    rest)

-- 2, 3 and 4
unfoldable pub ready : {A : Type 0} → Endpoint → ℕ → Result A Refusal → Result A Refusal
ready e store_len rest = checked e store_len (refuse LinkDown e.down rest)

-- 5 and 8: the identifier has no row; the session is none, or not its row's latest
unfoldable pub named : {A : Type 0} → Endpoint → ℕ → ℕ → Result A Refusal → Result A Refusal
named e id session rest =
    refuse NotServed (not (is_served id))
    (refuse WrongSession (eqb session 0 || not (eqb session (row_for e id).session))
    rest)

-- making a fresh endpoint: 2
unfoldable pub make_reply : ℕ → Reply
make_reply store_len = refuse StoreLength (not (eqb store_len store_length)) (done 0 0 0)

-- opening: 2, 3, 4, 5, 6, 7, 14, 13. It reports the session number and the bytes written
unfoldable pub open_reply : Endpoint → ℕ → ℕ → ℕ → Reply
open_reply e store_len id out_len =
    ready e store_len
    (refuse NotServed (not (is_served id))
    (refuse OtherHalf (not (is_ours e id))
    (refuse NotClosed (not (is_closed (row_for e id).status))
    (refuse SessionsSpent (is_spent e)
    (refuse OutputShort (ltb out_len short_length)
    (done (next_session e) 0 short_length))))))

-- close: 2, 3, 4, 5, 8, 9, 13
unfoldable pub close_reply : Endpoint → ℕ → ℕ → ℕ → ℕ → Reply
close_reply e store_len id session out_len =
    ready e store_len
    (named e id session
    (refuse NotOpen (not (is_open (row_for e id).status))
    (refuse OutputShort (ltb out_len short_length)
    (done 0 0 short_length))))

-- request: 2, 3, 4, 5, 8, 9, 10, 11, 13. 11 asks that the row can hold what is unread, granted and asked for
unfoldable pub request_reply : Endpoint → ℕ → ℕ → ℕ → ℕ → ℕ → Reply
request_reply e store_len id session amount out_len =
    ready e store_len
    (named e id session
    (refuse NotOpen (not (is_open (row_for e id).status))
    (refuse Empty (eqb amount 0)
    (refuse AboveRoom (ltb row_length ((row_for e id).unread + (row_for e id).input + amount))
    (refuse OutputShort (ltb out_len long_length)
    (done 0 0 long_length))))))

-- transmit of data_len bytes: 2, 3, 4, 5, 8, 9, 10, 12, 13
unfoldable pub transmit_reply : Endpoint → ℕ → ℕ → ℕ → ℕ → ℕ → Reply
transmit_reply e store_len id session data_len out_len =
    ready e store_len
    (named e id session
    (refuse NotOpen (not (is_open (row_for e id).status))
    (refuse Empty (eqb data_len 0)
    (refuse AboveOutput (ltb (row_for e id).output data_len)
    (refuse OutputShort (ltb out_len (long_length + data_len))
    (done 0 0 (long_length + data_len)))))))

-- read: 2, 3, 5, 8. As many bytes are given as are unread and fit the output
unfoldable pub read_reply : Endpoint → ℕ → ℕ → ℕ → ℕ → Reply
read_reply e store_len id session out_len =
    checked e store_len
    (named e id session
    (done 0 0 (min (row_for e id).unread out_len)))
