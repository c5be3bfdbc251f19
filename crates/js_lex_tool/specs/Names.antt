-- The names of kinds in rooms of one width.
use Rattle.std.specs.Prelude.{◌≡◌, ◌-◌, ◌≤◌, List, [], ◌++◌, codes, length, drop, slice_index_or}
use Rattle.js_kind.specs.Kinds.{kind_name, number}
use Rattle.js_kind.specs.declared.kind.Kind.{Kind}
use Rattle.js_lex_tool.specs.declared.names.Name.{Name}

-- The last bytes of the room are the name of the kind and a blank.
pub record EndsInName (kind : Kind) (name : Name) : Type 0 where
  pub width : length name.room ≡ 32
  pub short : name.len ≤ 24
  pub text : drop (32 - name.len) name.room ≡ kind_name kind ++ codes " "

-- There is the name of each kind, at the place of its number.
pub record HasNames (names : List Name) : Type 0 where
  pub at_number : (kind : Kind) → EndsInName kind (slice_index_or names (number kind) (record { room = []; len = 0 }))
