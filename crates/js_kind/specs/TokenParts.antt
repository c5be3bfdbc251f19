-- What a token is.
use Rattle.std.specs.Prelude.{ℕ, Bool, false}
use Rattle.js_kind.specs.declared.kind.Kind.{Kind}
use Rattle.js_kind.specs.declared.kind.Kind.TheVariants.{Eof}

-- where a token starts and ends, its kind and its three flags
pub record TokenParts : Type 0 where
  pub start : ℕ
  pub end : ℕ
  pub kind : Kind
  pub is_on_new_line : Bool
  pub escaped : Bool
  pub has_separator : Bool

-- the token of no bytes at 0, of kind `Eof`, with no flag
abbrev pub default_parts : TokenParts
default_parts = record {
  start = 0;
  end = 0;
  kind = Eof;
  is_on_new_line = false;
  escaped = false;
  has_separator = false;
}
