-- What a reader of HTML sees in bytes: states and steps of the HTML Standard (13.2.5, Tokenization), as far as pages
-- need them. The marks of HTML are ASCII, and no other character of UTF-8 has a byte of theirs.
use Rattle.std.specs.Prelude.{ℕ, ◌-◌, ◌+◌, ◌*◌, Bool, ◌==◌, ◌||◌, List, [], ◌∷◌, ◌++◌, codes, bytes_eq, encode_utf8}
use Rattle.std.specs.Prelude.{Option, Some, None, map, take, if◌then◌else◌}

-- What is seen: a byte of the text, or a tag with all that stands between its angles.
pub data Seen : Type 0 where
  in_text : ℕ → Seen
  tag : List ℕ → Seen

-- Where a reader is: in text; behind a CR; right behind the start tag of a `pre`; in a tag, in a value in double quotes
-- within one, or in a character reference, each with what was read of it.
pub data State : Type 0 where
  reads_text : State
  behind_return : State
  behind_pre : State
  in_tag : List ℕ → State
  in_value : List ℕ → State
  in_reference : List ℕ → State

-- what reading a byte comes to
pub record Step : Type 0 where
  pub next : State
  pub seen : List Seen

-- nothing is seen yet
abbrev pub goes_to : State → Step
goes_to state = record { next = state; seen = [] }

-- A byte of text: `<` begins a tag, and `&` a reference; a CR is a LF (13.2.3.5), and a NUL is left out (13.2.6.4.7).
abbrev pub text_step : ℕ → Step
text_step b =
    if b == 60 then goes_to (in_tag []) else if b == 38 then goes_to (in_reference [])
    else if b == 13 then record { next = behind_return; seen = in_text 10 ∷ [] }
    else if b == 0 then goes_to reads_text
    else record { next = reads_text; seen = in_text b ∷ [] }

-- a LF behind a CR is the same line end, and one right behind the start tag of a `pre` is left out (13.2.6.4.7)
abbrev pub step_unless_line_feed : ℕ → Step
step_unless_line_feed b = if b == 10 then goes_to reads_text else text_step b

-- where a reader is behind a tag
abbrev pub behind_tag : List ℕ → State
behind_tag xs = if bytes_eq xs (codes "pre") || bytes_eq (take 4 xs) (codes "pre ") then behind_pre else reads_text

-- the number that decimal digits write
abbrev pub number_of : ℕ → List ℕ → ℕ
number_of n [] = n
number_of n (d ∷ ds) = number_of (n * 10 + (d - 48)) ds

-- the character with a number
abbrev pub numbered : List ℕ → List ℕ
numbered [] = []
numbered (b ∷ bs) = if b == 35 then encode_utf8 (number_of 0 bs) else []

-- what a reference stands for: a character by name, or by its number (13.2.5.72 to 13.2.5.80)
abbrev pub referenced : List ℕ → List ℕ
referenced xs =
    if bytes_eq xs (codes "lt") then encode_utf8 60 else if bytes_eq xs (codes "amp") then encode_utf8 38
    else numbered xs

-- a byte of a tag
abbrev pub tag_step : List ℕ → ℕ → Step
tag_step xs b =
    if b == 62 then record { next = behind_tag xs; seen = tag xs ∷ [] }
    else if b == 34 then goes_to (in_value (xs ++ b ∷ [])) else goes_to (in_tag (xs ++ b ∷ []))

abbrev pub value_step : List ℕ → ℕ → Step
value_step xs b = if b == 34 then goes_to (in_tag (xs ++ b ∷ [])) else goes_to (in_value (xs ++ b ∷ []))

abbrev pub reference_step : List ℕ → ℕ → Step
reference_step xs b =
    if b == 59 then record { next = reads_text; seen = map in_text (referenced xs) }
    else goes_to (in_reference (xs ++ b ∷ []))

abbrev pub step : State → ℕ → Step
step reads_text b = text_step b
step behind_return b = step_unless_line_feed b
step behind_pre b = step_unless_line_feed b
step (in_tag xs) b = tag_step xs b
step (in_value xs) b = value_step xs b
step (in_reference xs) b = reference_step xs b

-- what is seen in bytes, from a state on
abbrev pub seen_from : State → List ℕ → List Seen
seen_from state [] = []
seen_from state (b ∷ bs) = (step state b).seen ++ seen_from (step state b).next bs

-- what is seen in bytes
abbrev pub seen_in : List ℕ → List Seen
seen_in bytes = seen_from reads_text bytes

-- the bytes of text among what is seen
abbrev pub text_seen : List Seen → List ℕ
text_seen [] = []
text_seen (in_text b ∷ xs) = b ∷ text_seen xs
text_seen (tag t ∷ xs) = text_seen xs

-- An element that is seen: its start tag, and the bytes of text in it.
pub record SeenElement : Type 0 where
  pub start_tag : List ℕ
  pub text : List ℕ

-- the tag opens an `i` with attributes, and the tag closes one
abbrev pub opens_element : List ℕ → Bool
opens_element t = bytes_eq (take 2 t) (codes "i ")

abbrev pub closes_element : List ℕ → Bool
closes_element t = bytes_eq t (codes "/i")

-- the element that a tag opens, if it opens one
abbrev pub opened : List ℕ → Option SeenElement
opened t = if opens_element t then Some (record { start_tag = t; text = [] }) else None

-- an element with more text
abbrev pub with_text : SeenElement → List ℕ → SeenElement
with_text e bytes = record e { text = e.text ++ bytes }

-- the `i` among what is seen, where one is open or none
abbrev pub elements_from : Option SeenElement → List Seen → List SeenElement
elements_from open_one [] = []
elements_from None (in_text b ∷ xs) = elements_from None xs
elements_from None (tag t ∷ xs) = elements_from (opened t) xs
elements_from (Some e) (in_text b ∷ xs) = elements_from (Some (with_text e (b ∷ []))) xs
elements_from (Some e) (tag t ∷ xs) =
    if closes_element t then e ∷ elements_from None xs else elements_from (Some e) xs

-- the `i` among what is seen, one behind the other
abbrev pub elements_seen : List Seen → List SeenElement
elements_seen xs = elements_from None xs
