-- The parts of a token in one number.
use Rattle.std.specs.Prelude.{◌≡◌, ℕ, ◌+◌, ◌*◌, ◌/◌, ◌%◌, ◌^◌, ◌==◌, Bool, true, false, List, ◌++◌, get_or, replicate}
use Rattle.js_kind.specs.declared.kind.Kind.{Kind}
use Rattle.js_kind.specs.declared.kind.Kind.TheVariants.{Eof}
use Rattle.js_kind.specs.declared.kind.TheConstants.Kind.{VARIANTS}
use Rattle.js_kind.specs.declared.kind_rows.TheConstants.{ENDS}
use Rattle.js_kind.specs.Kinds.{number}
use Rattle.js_kind.specs.TokenParts.{TokenParts}

-- the kind of a number, and `Eof` where it is that of none
abbrev pub kind_at : ℕ → Kind
kind_at n = get_or VARIANTS n Eof

-- the kinds of all bytes, and of some more numbers
abbrev pub kinds_by_number : List Kind
kinds_by_number = VARIANTS ++ replicate ENDS Eof

-- a flag in a byte
abbrev pub flag : Bool → ℕ
flag true = 1
flag false = 0

-- the start in bits 0 to 31, the end in 32 to 63, the number of the kind in 64 to 71, then the flags in a byte each
abbrev pub packed : TokenParts → ℕ
packed t =
    t.start + t.end * 2 ^ 32 + number t.kind * 2 ^ 64 + flag t.is_on_new_line * 2 ^ 72 + flag t.escaped * 2 ^ 80
    + flag t.has_separator * 2 ^ 88

-- the parts that a number holds
abbrev pub unpacked : ℕ → TokenParts
unpacked n = record {
  start = n % 2 ^ 32;
  end = n / 2 ^ 32 % 2 ^ 32;
  kind = kind_at (n / 2 ^ 64 % 2 ^ 8);
  is_on_new_line = n / 2 ^ 72 % 2 ^ 8 == 1;
  escaped = n / 2 ^ 80 % 2 ^ 8 == 1;
  has_separator = n / 2 ^ 88 % 2 ^ 8 == 1;
}

-- the number holds a token, and nothing else
abbrev pub IsPacked : ℕ → Type 0
IsPacked n = packed (unpacked n) ≡ n

-- the number has this value in the place of its `width` bits from `shift` on
abbrev pub Replaces : ℕ → ℕ → ℕ → ℕ → ℕ → Type 0
Replaces width shift old value new = new + old / 2 ^ shift % 2 ^ width * 2 ^ shift ≡ old + value * 2 ^ shift
