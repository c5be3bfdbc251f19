-- Arrow functions.
use Rattle.std.specs.Prelude.{◌≡◌, false}
use Rattle.std.specs.Option.{is_some}
use Rattle.js_kind.specs.declared.kind.Kind.TheVariants.{Arrow}
use Rattle.js_cursor.specs.Cursor.{CursorState}

-- An arrow is current, on the line of the token before it (ECMA-262 15.3), and no fatal error stands.
pub record IsAtArrow (c : CursorState) : Type 0 where
  pub kind : c.token.kind ≡ Arrow
  pub on_line : c.token.is_on_new_line ≡ false
  pub no_fatal_error : is_some c.fatal ≡ false
