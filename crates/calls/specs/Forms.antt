-- Each form of a call, from the fields of a record (02, P1); what a form does not use is zero.
use Rattle.calls.specs.Names.{ℕ, eqb, ltb, pick, ◌and◌, virtual, Access, Call, Option, Some, None}

-- a register's values are below this
abbrev pub value_limit : ℕ
value_limit = 65536

-- an access byte: 0 read, 1 write
unfoldable pub access_of : ℕ → Access
access_of x = pick (eqb x 0) Access.Read Access.Write

-- each kind of call, of the second byte, the address and the value
unfoldable pub write_by : ℕ → ℕ → ℕ → Option Call
write_by x a v = pick (eqb a 0 and ltb v value_limit) (Some (Call.Write x v)) None

unfoldable pub read_by : ℕ → ℕ → ℕ → Option Call
read_by x a v = pick (eqb a 0 and eqb v 0) (Some (Call.Read x)) None

unfoldable pub request_by : ℕ → ℕ → ℕ → Option Call
request_by x a v = pick (ltb x 2 and eqb v 0) (Some (Call.Request (virtual a) (access_of x))) None

unfoldable pub drop_by : ℕ → ℕ → ℕ → Option Call
drop_by x a v = pick (eqb x 0 and eqb a 0 and eqb v 0) (Some Call.Drop) None

unfoldable pub report_by : ℕ → ℕ → ℕ → Option Call
report_by x a v = pick (eqb x 0 and eqb v 0) (Some (Call.Shift (virtual a))) None
