-- Document 01's fourteen cases, 8 and 9 as document 02's T-03 has them, as one table: a row for each thing done, with its bytes as data and what is
-- expected of it.
use Rattle.std.specs.Prelude.{ℕ, List, [], ◌∷◌, ◌++◌, map, replicate}
use Rattle.std.specs.Borrow.{Bor}
use Rattle.wire.specs.Layout.{size}
use Rattle.wire.specs.Numbers.{bytes_of}
use Rattle.cases.specs.declared.Piece as code_piece
use Rattle.cases.specs.declared.Deed as code_deed
use Rattle.cases.specs.declared.Row as code_row
use Rattle.cases.specs.declared.Deed.TheVariants as does

-- ---- bytes as data

-- a number of so many bytes, so many times
pub record Piece : Type 0 where
  pub width : ℕ
  pub value : ℕ
  pub times : ℕ

abbrev pub piece : ℕ → ℕ → ℕ → Piece
piece w v n = record { width = w; value = v; times = n }

-- lists one after another
abbrev pub joined : List (List ℕ) → List ℕ
joined [] = []
joined (x ∷ xs) = x ++ joined xs

-- the bytes of pieces, and their numbers
unfoldable pub bytes_in : List Piece → List ℕ
bytes_in [] = []
bytes_in (p ∷ ps) = joined (replicate p.times (bytes_of p.width p.value)) ++ bytes_in ps

unfoldable pub numbers_in : List Piece → List ℕ
numbers_in [] = []
numbers_in (p ∷ ps) = replicate p.times p.value ++ numbers_in ps

-- a message's header, with a correlation of 11 hex; the 16 bytes 22 hex of an id
abbrev pub header : ℕ → ℕ → List Piece → List Piece
header type size payload = piece 8 type 1 ∷ piece 1 0x11 16 ∷ piece 8 size 1 ∷ payload

abbrev pub id : Piece
id = piece 1 0x22 16

-- the payload of a 5205 with formatID 1, two lengths, and data of their sum
abbrev pub branch : ℕ → ℕ → ℕ → List Piece
branch gtrid bqual sum = id ∷ piece 8 1 1 ∷ piece 8 gtrid 1 ∷ piece 8 bqual 1 ∷ piece 1 0x44 sum ∷ piece 4 1 1 ∷ piece 8 0 1 ∷ []

-- a record of the link for identifier 0x8000
abbrev pub short : ℕ → List Piece
short opcode = piece 1 opcode 1 ∷ piece 2 0x8000 1 ∷ []

abbrev pub long : ℕ → ℕ → List Piece → List Piece
long opcode count bytes = piece 1 opcode 1 ∷ piece 2 0x8000 1 ∷ piece 4 count 1 ∷ bytes

-- ---- rows

-- what is done: of messages, reading one and choosing among offers; of the link, making a fresh endpoint that did not begin it, a record
-- received, and our calls for identifier 0x8000
pub data Deed : Type 0 where
  ReadMessage : Deed
  ChooseVersion : Deed
  Make : Deed
  Receive : Deed
  Request : Deed
  Close : Deed
  ReadQueue : Deed

-- a row: the case's number; what is done, with two numbers (the agreed version; a session and an amount) and bytes (or offers); and what is
-- expected: the number answered, the place, the value (the used length of a message, the version chosen, the bytes that a link call wrote), and
-- the bytes at the front of the output, behind which nothing is changed
pub record Row : Type 0 where
  pub case : ℕ
  pub deed : Deed
  pub first : ℕ
  pub second : ℕ
  pub bytes : List Piece
  pub number : ℕ
  pub place : ℕ
  pub value : ℕ
  pub output : List Piece

abbrev pub row : ℕ → Deed → ℕ → ℕ → List Piece → ℕ → ℕ → ℕ → List Piece → Row
row c d a b ps n p v o = record { case = c; deed = d; first = a; second = b; bytes = ps; number = n; place = p; value = v; output = o }

-- the table; the rows are done one after another
abbrev pub table : List Row
table =
    -- 1: no bytes
    row 1 ReadMessage 1004 0 [] 1 0 0 []
    ∷ row 1 Make 0 0 [] 0 0 0 []
    ∷ row 1 Receive 0 0 [] 1 0 0 []
    -- 2: a 7202 at 1001, and at 1000
    ∷ row 2 ReadMessage 1001 0 (header 7202 16 (id ∷ [])) 0 0 48 []
    ∷ row 2 ReadMessage 1000 0 (header 7202 16 (id ∷ [])) 42 0 0 []
    -- 3: its size 17, one byte added
    ∷ row 3 ReadMessage 1001 0 (header 7202 17 (id ∷ piece 1 0x33 1 ∷ [])) 46 16 0 []
    -- 4: its size 15
    ∷ row 4 ReadMessage 1001 0 (header 7202 15 (id ∷ [])) 44 0 0 []
    -- 5: its size 65,505
    ∷ row 5 ReadMessage 1001 0 (header 7202 65505 (id ∷ [])) 43 0 0 []
    -- 6: a 7201 naming 1005, after a name of three bytes
    ∷ row 6 ReadMessage 1004 0 (header 7201 51 (id ∷ id ∷ piece 8 3 1 ∷ piece 1 0x61 3 ∷ piece 8 1005 1 ∷ [])) 45 43 0 []
    -- 7: a 5205 with formatID 0
    ∷ row 7 ReadMessage 1004 0 (header 5205 36 (id ∷ piece 8 0 1 ∷ piece 4 1 1 ∷ piece 8 0 1 ∷ [])) 0 0 68 []
    -- 8 and 9: lengths 64 and 64, 65 and 0 (document 02's T-03)
    ∷ row 8 ReadMessage 1004 0 (header 5205 180 (branch 64 64 128)) 0 0 212 []
    ∷ row 9 ReadMessage 1004 0 (header 5205 117 (branch 65 0 65)) 45 24 0 []
    -- 10: offers of 1005, 1003, 1003, and none
    ∷ row 10 ChooseVersion 0 0 (piece 8 1005 1 ∷ piece 8 1003 2 ∷ []) 0 0 1003 []
    ∷ row 10 ChooseVersion 0 0 [] 0 0 0 []
    -- 11: a request of 1,024 on a new session, and 1 more
    ∷ row 11 Make 0 0 [] 0 0 0 []
    ∷ row 11 Receive 0 0 (short 0xE1) 0 0 0 []
    ∷ row 11 Request 1 1024 [] 0 0 7 (long 0xE4 1024 [])
    ∷ row 11 Request 1 1 [] 11 0 0 []
    -- 12: a TRANSMIT of 1 with no input credit, before its data and with it
    ∷ row 12 Make 0 0 [] 0 0 0 []
    ∷ row 12 Receive 0 0 (short 0xE1) 0 0 0 []
    ∷ row 12 Receive 0 0 (long 0xE5 1 []) 27 0 0 []
    ∷ row 12 Make 0 0 [] 0 0 0 []
    ∷ row 12 Receive 0 0 (short 0xE1) 0 0 0 []
    ∷ row 12 Receive 0 0 (long 0xE5 1 (piece 1 7 1 ∷ [])) 27 0 0 []
    -- 13: a CLOSE on a pending row, with no CLOSEACK
    ∷ row 13 Make 0 0 [] 0 0 0 []
    ∷ row 13 Receive 0 0 (short 0xE1) 0 0 0 []
    ∷ row 13 Close 1 0 [] 0 0 3 (short 0xE2)
    ∷ row 13 Receive 0 0 (short 0xE2) 0 0 0 []
    -- 14: three unread bytes, CLOSE, OPEN; the old number, and the new one
    ∷ row 14 Make 0 0 [] 0 0 0 []
    ∷ row 14 Receive 0 0 (short 0xE1) 0 0 0 []
    ∷ row 14 Request 1 1024 [] 0 0 7 (long 0xE4 1024 [])
    ∷ row 14 Receive 0 0 (long 0xE5 3 (piece 1 7 3 ∷ [])) 0 0 0 []
    ∷ row 14 Receive 0 0 (short 0xE2) 0 0 3 (short 0xE3)
    ∷ row 14 Receive 0 0 (short 0xE1) 0 0 0 []
    ∷ row 14 ReadQueue 1 0 [] 8 0 0 []
    ∷ row 14 ReadQueue 2 0 [] 0 0 0 []
    ∷ []

-- ---- the table as the code has it

abbrev pub told_pieces : Bor (List code_piece.Piece) → List Piece
told_pieces ps = map (λ p. piece (size p.width) p.value p.times) ps.now

-- a row whose deed has these numbers and bytes
abbrev pub told_as : code_row.Row → Deed → ℕ → ℕ → List Piece → Row
told_as r d a b ps = row r.case d a b ps r.number r.place r.value (told_pieces r.output)

abbrev pub told_deed : code_row.Row → code_deed.Deed → Row
told_deed r (does.ReadMessage v ps) = told_as r ReadMessage v 0 (told_pieces ps)
told_deed r (does.ChooseVersion ps) = told_as r ChooseVersion 0 0 (told_pieces ps)
told_deed r does.Make = told_as r Make 0 0 []
told_deed r (does.Receive ps) = told_as r Receive 0 0 (told_pieces ps)
told_deed r (does.Request s n) = told_as r Request s n []
told_deed r (does.Close s) = told_as r Close s 0 []
told_deed r (does.ReadQueue s) = told_as r ReadQueue s 0 []

abbrev pub told : Bor (List code_row.Row) → List Row
told rs = map (λ r. told_deed r r.deed) rs.now
