-- Members of objects of JSON, each behind the comma that parts it from the one before it.
use Rattle.std.specs.Prelude.{ℕ, Bool, List, ◌++◌, codes, if◌then◌else◌}
use Rattle.std.specs.Fmt.{decimal}
use Rattle.js_totsenak.specs.Json.{json_text}

-- what an object of a type begins with
unfoldable pub object_head : List ℕ → List ℕ
object_head object_type = codes "{\"type\":\"" ++ object_type ++ codes "\""

-- what stands before the value of a member
unfoldable pub member_head : List ℕ → List ℕ
member_head name = codes ",\"" ++ name ++ codes "\":"

-- a member whose value is a word with nothing to escape in it
unfoldable pub word_member : List ℕ → List ℕ → List ℕ
word_member name word = member_head name ++ codes "\"" ++ word ++ codes "\""

-- a member whose value are these characters
unfoldable pub text_member : List ℕ → List ℕ → List ℕ
text_member name cs = member_head name ++ json_text cs

unfoldable pub number_member : List ℕ → ℕ → List ℕ
number_member name n = member_head name ++ decimal n

abbrev pub flag_text : Bool → List ℕ
flag_text flag = if flag then codes "true" else codes "false"

unfoldable pub flag_member : List ℕ → Bool → List ℕ
flag_member name flag = member_head name ++ flag_text flag

unfoldable pub null_member : List ℕ → List ℕ
null_member name = member_head name ++ codes "null"
