-- Lines that are written from their ends on, and the lengths of the names in them.
use Rattle.std.proofs.Common.{◌≡◌, ℕ, suc, ◌+◌, ◌-◌, ◌<◌, ◌≤◌, true, List, [], ◌∷◌, ◌++◌, length, take, drop, refl, sym, ap}
use Rattle.std.proofs.Common.{◌∙◌, arith, ltb, replicate, zero, get_or, append_assoc, length-append}
use Rattle.std.proofs.Common.{length-take-le, length-drop, drop-drop, take_all}
use Rattle.std.proofs.lemmas.Bool.{ltb-true}
use Rattle.std.proofs.lemmas.List.{drop_at, drop-append-le, take-append-drop, get_or-replicate, take_at, take-replicate}
use Rattle.std.proofs.lemmas.List.{get_or-append-add, drop-take}
use Rattle.std.specs.List.{slice_range}
use Rattle.std.proofs.lemmas.Str.{IsUtf8-append, IsUtf8-from_ascii}
use Rattle.std.proofs.lemmas.Str.Ascii.{IsAscii-from_all}
use Rattle.std.specs.Str.{IsUtf8}
use Rattle.std.proofs.lemmas.Simd.{put_chunk_whole}
use lib.Lanes.{put_chunk, chunk}
use borrow.Rule.Slice.PartMut.{put_mid}
use Rattle.js_session.specs.declared.command.Command.{Command}
use Rattle.js_session.specs.declared.command.Command.TheVariants.{Next}
use Rattle.js_text.specs.Comment.{comment_kind_name, comment_position_name, comment_content_name}
use Rattle.js_text.specs.declared.comment.CommentContent.{CommentContent}
use Rattle.js_text.specs.declared.comment.CommentContent.TheVariants as content
use Rattle.js_text.specs.declared.comment.CommentKind.{CommentKind}
use Rattle.js_text.specs.declared.comment.CommentKind.TheVariants as comment_kind
use Rattle.js_text.specs.declared.comment.CommentPosition.{CommentPosition}
use Rattle.js_text.specs.declared.comment.CommentPosition.TheVariants as position
use Rattle.js_lex_tool.specs.Command.{command_word}

-- A part that ends at a place stands before all that follows the place.
pub put_mid_before : (a k at : ℕ) (xs ys : List ℕ) → a + k ≡ at → at ≤ length xs
    → drop a (put_mid a k xs ys) ≡ ys ++ drop at xs
put_mid_before a k at xs ys e h =
    drop_at (take a xs) (ys ++ drop k (drop a xs)) a (length-take-le a xs (omega arith))
    ∙ ap (λ zs. ys ++ zs) (drop-drop k a xs ∙ ap (λ n. drop n xs) e)

-- The last n bytes of a part that ends at a place stand before all that follows the place.
pub put_mid_end : (a k n at : ℕ) (xs ys : List ℕ) → a + k ≡ at → at ≤ length xs → length ys ≡ k → n ≤ k
    → drop (at - n) (put_mid a k xs ys) ≡ drop (k - n) ys ++ drop at xs
put_mid_end a k n at xs ys e h l few =
    let place : at - n ≡ a + (k - n) = omega arith in
    let whole = put_mid a k xs ys in
    ap (λ m. drop m whole) place
    ∙ sym (drop-drop (k - n) a whole)
    ∙ ap (drop (k - n)) (put_mid_before a k at xs ys e h)
    ∙ drop-append-le (k - n) ys (drop at xs) (omega arith)

-- The same, where the part is as wide as the lanes that were stored there.
pub lanes_end : (w n at : ℕ) (xs room : List ℕ) → w ≤ at → at ≤ length xs → length room ≡ w → n ≤ w
    → drop (at - n)
    (put_mid (at - w) (at - (at - w)) xs (put_chunk 0 (take (at - (at - w)) (drop (at - w) xs)) (chunk 0 w room)))
    ≡ drop (w - n) room ++ drop at xs
lanes_end w n at xs room far within width few =
    let k : at - (at - w) ≡ w = omega arith in
    let rest = drop (at - w) xs in
    let part = take (at - (at - w)) rest in
    let long : length part ≡ length room =
    ap (λ m. length (take m rest)) k
    ∙ length-take-le w rest (omega (arith, length-drop (at - w) xs))
    ∙ sym width in
    let whole : put_chunk 0 part (chunk 0 w room) ≡ room =
    ap (put_chunk 0 part) (take_all w room (omega (arith, width))) ∙ put_chunk_whole part room long in
    ap (λ ys. drop (at - n) (put_mid (at - w) (at - (at - w)) xs ys)) whole
    ∙ put_mid_end (at - w) (at - (at - w)) n at xs room (omega arith) within (omega (arith, width)) (omega arith)
    ∙ ap (λ m. drop (m - n) room ++ drop at xs) k

-- A part of a text of no more than 16 bytes is the end of the 16 bytes up to its end.
pub part_of_block : (start end : ℕ) (text block : List ℕ) → 16 ≤ end → start ≤ end → end ≤ start + 16
    → end ≤ length text → block ≡ slice_range text (end - 16) end
    → drop (16 - (end - start)) block ≡ slice_range text start end
part_of_block start end text block far ordered short within is =
    let width : end - (end - 16) ≡ 16 = omega arith in
    let rest = drop (end - 16) text in
    let sum : 16 ≡ 16 - (end - start) + (end - start) = omega arith in
    let from : end - 16 + (16 - (end - start)) ≡ start = omega arith in
    ap (drop (16 - (end - start))) (is ∙ ap (λ n. take n rest) (width ∙ sum))
    ∙ drop-take (16 - (end - start)) (end - start) rest
    ∙ ap (take (end - start)) (drop-drop (16 - (end - start)) (end - 16) text ∙ ap (λ n. drop n text) from)

-- What comes behind a list, past all of it.
take_behind : (xs ys : List ℕ) (m : ℕ) → take (length xs + m) (xs ++ ys) ≡ xs ++ take m ys
take_behind [] ys m = let e : 0 + m ≡ m = omega arith in ap (λ n. take n ys) e
take_behind (x ∷ xs) ys m =
    let e : length (x ∷ xs) + m ≡ suc (length xs + m) = omega arith in
    rw e (ap (λ zs. x ∷ zs) (take_behind xs ys m))

drop_behind : (xs ys : List ℕ) (m : ℕ) → drop (length xs + m) (xs ++ ys) ≡ drop m ys
drop_behind xs ys m = sym (drop-drop m (length xs) (xs ++ ys)) ∙ ap (drop m) (drop_at xs ys (length xs) refl)

-- A line, and the zeros behind its end.
pub line_and_zeros : (start : ℕ) (bytes : List ℕ) → start ≤ 192 → drop 192 bytes ≡ replicate 64 0
    → drop start bytes ≡ take (192 - start) (drop start bytes) ++ replicate 64 0
line_and_zeros start bytes h zeros =
    let e : start + (192 - start) ≡ 192 = omega arith in
    let line = drop start bytes in
    sym (take-append-drop (192 - start) line)
    ∙ ap (λ xs. take (192 - start) line ++ xs)
    (drop-drop (192 - start) start bytes ∙ ap (λ n. drop n bytes) e ∙ zeros)

pub zeros_utf8 : IsUtf8 (replicate 64 0)
zeros_utf8 = IsUtf8-from_ascii (replicate 64 0) (IsAscii-from_all (replicate 64 0) (λ k d h. omega (arith, get_or-replicate 64 k 0 d h)))

-- The block of a short line behind a text: what it has of the zeros stands behind the line.
block_is : (old line block bytes : List ℕ) → block ≡ take 64 (line ++ replicate 64 0) → bytes ≡ old ++ block
    → length line ≤ 64
    → bytes ≡ (old ++ line) ++ replicate (64 - length line) 0
block_is old line block bytes b e short =
    let width : 64 ≡ length line + (64 - length line) = omega arith in
    let zeros : List ℕ = replicate 64 0 in
    e
    ∙ ap (λ xs. old ++ xs)
    (b
    ∙ ap (λ n. take n (line ++ zeros)) width
    ∙ take_behind line zeros (64 - length line)
    ∙ ap (λ xs. line ++ xs) (take-replicate (64 - length line) 64 0 (omega arith)))
    ∙ sym (append_assoc old line (replicate (64 - length line) 0))

-- So the line is there where the rest of it is cut off.
pub block_cut : (old line block bytes : List ℕ) (end : ℕ) → block ≡ take 64 (line ++ replicate 64 0)
    → bytes ≡ old ++ block → length line ≤ 64 → end ≡ length old + length line
    → take end bytes ≡ old ++ line
block_cut old line block bytes end b e short at =
    rw (block_is old line block bytes b e short)
    (take_at (old ++ line) (replicate (64 - length line) 0) end (length-append old line ∙ sym at))

zero_at : (n i : ℕ) → ◌≡◌ {A = ℕ} (get_or (replicate n 0) i 0) 0
zero_at zero i = refl
zero_at (suc n) zero = refl
zero_at (suc n) (suc i) = zero_at n i

-- And it may be cut off there.
pub block_split : (old line block bytes : List ℕ) (end : ℕ) → block ≡ take 64 (line ++ replicate 64 0)
    → bytes ≡ old ++ block → length line ≤ 64 → end ≡ length old + length line
    → get_or bytes end 0 ≡ 0
block_split old line block bytes end b e short at =
    let from : end ≡ length (old ++ line) + 0 = omega (arith, length-append old line) in
    rw (block_is old line block bytes b e short, from)
    (get_or-append-add (old ++ line) (replicate (64 - length line) 0) 0 0 ∙ zero_at (64 - length line) 0)

-- A piece that was put before a place comes before what the line had.
pub text_more : (start at : ℕ) (old new piece : List ℕ) → start + length piece ≡ at → at ≤ 192
    → drop start new ≡ piece ++ drop at old
    → take (192 - start) (drop start new) ≡ piece ++ take (192 - at) (drop at old)
text_more start at old new piece e h is =
    let width : 192 - start ≡ length piece + (192 - at) = omega arith in
    rw (is, width) (take_behind piece (drop at old) (192 - at))

-- What stands behind the end of lines stays.
pub zeros_stay : (start at : ℕ) (old new piece : List ℕ) → start + length piece ≡ at → at ≤ 192
    → drop start new ≡ piece ++ drop at old
    → drop 192 new ≡ drop 192 old
zeros_stay start at old new piece e h is =
    let width : 192 - start ≡ length piece + (192 - at) = omega arith in
    let from : start + (192 - start) ≡ 192 = omega arith in
    let to : at + (192 - at) ≡ 192 = omega arith in
    ap (λ n. drop n new) (sym from)
    ∙ sym (drop-drop (192 - start) start new)
    ∙ ap (drop (192 - start)) is
    ∙ ap (λ n. drop n (piece ++ drop at old)) width
    ∙ drop_behind piece (drop at old) (192 - at)
    ∙ drop-drop (192 - at) at old
    ∙ ap (λ n. drop n old) to

-- A line to which a piece was put is one again.
pub line_more : (start at : ℕ) (old new piece : List ℕ) → start + length piece ≡ at
    → drop start new ≡ piece ++ drop at old → IsUtf8 piece
    → (at ≤ 192) × IsUtf8 (take (192 - at) (drop at old)) × (drop 192 old ≡ replicate 64 0)
    → (start ≤ 192) × IsUtf8 (take (192 - start) (drop start new)) × (drop 192 new ≡ replicate 64 0)
line_more start at old new piece e is utf8 (h, before, zeros) = (
  omega arith,
  rw (text_more start at old new piece e h is) (IsUtf8-append piece (take (192 - at) (drop at old)) utf8 before),
  zeros_stay start at old new piece e h is ∙ zeros,
)

few_in_word : (command : Command) → ltb (length (command_word command)) 10 ≡ true
few_in_word Next = refl
few_in_word _ = refl

-- The words for commands are short.
pub word_is_short : (command : Command) → length (command_word command) ≤ 9
word_is_short c =
    let short : length (command_word c) < 10 = ltb-true (length (command_word c)) 10 (few_in_word c) in omega arith

-- And those of the kinds, the places and the classes of comments.
few_in_kind : (x : CommentKind) → ltb (length (comment_kind_name x)) 16 ≡ true
few_in_kind comment_kind.Line = refl
few_in_kind _ = refl

pub kind_is_short : (x : CommentKind) → length (comment_kind_name x) ≤ 15
kind_is_short x =
    let short : length (comment_kind_name x) < 16 = ltb-true (length (comment_kind_name x)) 16 (few_in_kind x) in omega arith

few_in_position : (x : CommentPosition) → ltb (length (comment_position_name x)) 9 ≡ true
few_in_position position.Leading = refl
few_in_position _ = refl

pub position_is_short : (x : CommentPosition) → length (comment_position_name x) ≤ 8
position_is_short x =
    let short : length (comment_position_name x) < 9 = ltb-true (length (comment_position_name x)) 9 (few_in_position x) in omega arith

few_in_content : (x : CommentContent) → ltb (length (comment_content_name x)) 24 ≡ true
few_in_content content.Legal = refl
few_in_content _ = refl

pub content_is_short : (x : CommentContent) → length (comment_content_name x) ≤ 23
content_is_short x =
    let short : length (comment_content_name x) < 24 = ltb-true (length (comment_content_name x)) 24 (few_in_content x) in omega arith
