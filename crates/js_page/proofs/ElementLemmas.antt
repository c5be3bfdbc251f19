-- A reader sees one element for each token and each comment.
use Rattle.std.proofs.Common.{◌≡◌, ℕ, ◌+◌, Bool, true, false, not, List, [], ◌∷◌, ◌++◌, ◌∙◌, ap, sym, refl, append-nil}
use Rattle.std.proofs.Common.{append_assoc, Option, Some, None}
use Rattle.std.specs.Prelude.{◌&&◌, ◌==◌, codes, encode_utf8, if◌then◌else◌, map, min}
use Rattle.std.proofs.lemmas.List.Concat.{flat_map-append}
use Rattle.js_page.proofs.TextLemmas.{characters_append, shown_bytes}
use Rattle.js_page.specs.Characters.{bytes_seen, character_seen, hidden_tag, is_hidden, seen_hidden, shown}
use Rattle.js_page.specs.Classes.{letter_of}
use Rattle.js_page.specs.Elements.{Element, behind_element, element_pieces, late_faults, pieces_from}
use Rattle.js_page.specs.Fragment.{element_shown, elements_shown}
use Rattle.js_page.specs.Lines.{begun, ends_before, ends_behind, line_behind, next_lines, pieces_at, pieces_before, pieces_in}
use Rattle.js_page.specs.Parts.{Here, behind_fault, behind_faults, behind_part, behind_stretch, fault_pieces}
use Rattle.js_page.specs.Parts.{faults_pieces, part_to, plain_to, stretch_to, told_to}
use Rattle.js_page.specs.Pieces.{Piece, character, characters_of, closing, fault_closing, fault_opening, line, opening}
use Rattle.js_page.specs.Pieces.{piece_seen, seen_of}
use Rattle.js_page.specs.Reading.{Seen, SeenElement, elements_from, in_text, opened, tag, with_text}
use Rattle.js_page.specs.declared.class.Class.{Class}
use Rattle.js_page.specs.declared.lines.Lines.{Lines}
use Rattle.js_page.specs.declared.writing.Fault.{Fault}

-- no piece opens or closes the element of a token or a comment
abbrev IsInner : List Piece → Type 0
IsInner [] = Unit {0}
IsInner (character c ∷ ps) = IsInner ps
IsInner (line n ∷ ps) = IsInner ps
IsInner (opening c ∷ ps) = ⊥
IsInner (closing ∷ ps) = ⊥
IsInner (fault_opening title ∷ ps) = IsInner ps
IsInner (fault_closing ∷ ps) = IsInner ps

inner_both : (ps qs : List Piece) → IsInner ps → IsInner qs → IsInner (ps ++ qs)
inner_both [] qs front back = back
inner_both (character c ∷ ps) qs front back = inner_both ps qs front back
inner_both (line n ∷ ps) qs front back = inner_both ps qs front back
inner_both (opening c ∷ ps) qs front back = absurd front
inner_both (closing ∷ ps) qs front back = absurd front
inner_both (fault_opening title ∷ ps) qs front back = inner_both ps qs front back
inner_both (fault_closing ∷ ps) qs front back = inner_both ps qs front back

inner_line : (b : Bool) (n : ℕ) → IsInner (if b then line n ∷ [] else [])
inner_line true n = tt
inner_line false n = tt

inner_at : (lines : Lines) (c : ℕ) → IsInner (pieces_at lines c)
inner_at lines c =
    inner_both (pieces_before lines c) (character c ∷ line_behind (begun lines c) c)
    (inner_line (ends_before lines c) (lines.number + 1)) (inner_line (ends_behind c) (begun lines c + 1))

inner_in : (lines : Lines) (cs : List ℕ) → IsInner (pieces_in lines cs)
inner_in lines [] = tt
inner_in lines (c ∷ cs) =
    inner_both (pieces_at lines c) (pieces_in (next_lines lines c) cs) (inner_at lines c) (inner_in (next_lines lines c) cs)

inner_to : (to : ℕ) (here : Here) → IsInner (plain_to to here)
inner_to to here = inner_in here.lines (stretch_to to here)

inner_fault : (to : ℕ) (f : Fault) (here : Here) → IsInner (fault_pieces to f here)
inner_fault to f here =
    let mid : Here = behind_stretch f.start here in
    inner_both (plain_to f.start here) (fault_opening f.title ∷ (plain_to (min f.end to) mid ++ fault_closing ∷ []))
    (inner_to f.start here) (inner_both (plain_to (min f.end to) mid) (fault_closing ∷ []) (inner_to (min f.end to) mid) tt)

inner_faults : (to : ℕ) (fs : List Fault) (here : Here) → IsInner (faults_pieces to fs here)
inner_faults to [] here = tt
inner_faults to (f ∷ fs) here =
    inner_both (fault_pieces to f here) (faults_pieces to fs (behind_fault to f here)) (inner_fault to f here)
    (inner_faults to fs (behind_fault to f here))

inner_late : (fs : List Fault) → IsInner (late_faults fs)
inner_late [] = tt
inner_late (f ∷ fs) = inner_late fs

-- what is seen of pieces, behind one another
seen_both : (ps qs : List Piece) (rest : List Seen) → seen_of (ps ++ qs) ++ rest ≡ seen_of ps ++ (seen_of qs ++ rest)
seen_both ps qs rest =
    ap (λ (xs : List Seen). xs ++ rest) (flat_map-append piece_seen ps qs) ∙ append_assoc (seen_of ps) (seen_of qs) rest

-- outside of elements

bytes_outside : (bs : List ℕ) (rest : List Seen)
    → elements_from None (map in_text bs ++ rest) ≡ elements_from None rest
bytes_outside [] rest = refl
bytes_outside (b ∷ bs) rest = bytes_outside bs rest

hidden_opens_none : (c : ℕ) → opened (hidden_tag c) ≡ None
unfolding hidden_tag
hidden_opens_none c = refl

character_outside : (h : Bool) (c : ℕ) (rest : List Seen)
    → elements_from None (seen_hidden h c ++ rest) ≡ elements_from None rest
character_outside true c rest =
    ap (λ (o : Option SeenElement). elements_from o ((bytes_seen c ++ tag (codes "/b") ∷ []) ++ rest))
    (hidden_opens_none c)
    ∙ ap (elements_from None) (append_assoc (bytes_seen c) (tag (codes "/b") ∷ []) rest)
    ∙ bytes_outside (encode_utf8 (shown c)) (tag (codes "/b") ∷ rest)
character_outside false c rest = bytes_outside (encode_utf8 (shown c)) rest

outside : (ps : List Piece) (rest : List Seen) → IsInner ps
    → elements_from None (seen_of ps ++ rest) ≡ elements_from None rest
outside [] rest inner = refl
outside (character c ∷ ps) rest inner =
    ap (elements_from None) (append_assoc (character_seen c) (seen_of ps) rest)
    ∙ character_outside (is_hidden c && not (c == 0)) c (seen_of ps ++ rest)
    ∙ outside ps rest inner
outside (line n ∷ ps) rest inner = outside ps rest inner
outside (opening c ∷ ps) rest inner = absurd inner
outside (closing ∷ ps) rest inner = absurd inner
outside (fault_opening title ∷ ps) rest inner = outside ps rest inner
outside (fault_closing ∷ ps) rest inner = outside ps rest inner

-- within an element

more_text : (e : SeenElement) (xs ys : List ℕ) → with_text (with_text e xs) ys ≡ with_text e (xs ++ ys)
more_text e xs ys = ap (λ bytes. record e { text = bytes }) (append_assoc e.text xs ys)

no_text : (e : SeenElement) → e ≡ with_text e []
no_text e = ap (λ bytes. record e { text = bytes }) (sym (append-nil e.text))

bytes_within : (e : SeenElement) (bs : List ℕ) (rest : List Seen)
    → elements_from (Some e) (map in_text bs ++ rest) ≡ elements_from (Some (with_text e bs)) rest
bytes_within e [] rest = ap (λ (x : SeenElement). elements_from (Some x) rest) (no_text e)
bytes_within e (b ∷ bs) rest =
    bytes_within (with_text e (b ∷ [])) bs rest
    ∙ ap (λ (x : SeenElement). elements_from (Some x) rest) (more_text e (b ∷ []) bs)

hidden_closes_none : (c : ℕ) (e : SeenElement) (rest : List Seen)
    → elements_from (Some e) (tag (hidden_tag c) ∷ rest) ≡ elements_from (Some e) rest
unfolding hidden_tag
hidden_closes_none c e rest = refl

character_within : (h : Bool) (c : ℕ) (e : SeenElement) (rest : List Seen)
    → elements_from (Some e) (seen_hidden h c ++ rest)
    ≡ elements_from (Some (with_text e (encode_utf8 (shown c)))) rest
character_within true c e rest =
    hidden_closes_none c e ((bytes_seen c ++ tag (codes "/b") ∷ []) ++ rest)
    ∙ ap (elements_from (Some e)) (append_assoc (bytes_seen c) (tag (codes "/b") ∷ []) rest)
    ∙ bytes_within e (encode_utf8 (shown c)) (tag (codes "/b") ∷ rest)
character_within false c e rest = bytes_within e (encode_utf8 (shown c)) rest

within : (ps : List Piece) (e : SeenElement) (rest : List Seen) → IsInner ps
    → elements_from (Some e) (seen_of ps ++ rest)
    ≡ elements_from (Some (with_text e (shown_bytes (characters_of ps)))) rest
within [] e rest inner = ap (λ (x : SeenElement). elements_from (Some x) rest) (no_text e)
within (character c ∷ ps) e rest inner =
    ap (elements_from (Some e)) (append_assoc (character_seen c) (seen_of ps) rest)
    ∙ character_within (is_hidden c && not (c == 0)) c e (seen_of ps ++ rest)
    ∙ within ps (with_text e (encode_utf8 (shown c))) rest inner
    ∙ ap (λ (x : SeenElement). elements_from (Some x) rest)
    (more_text e (encode_utf8 (shown c)) (shown_bytes (characters_of ps)))
within (line n ∷ ps) e rest inner = within ps e rest inner
within (opening c ∷ ps) e rest inner = absurd inner
within (closing ∷ ps) e rest inner = absurd inner
within (fault_opening title ∷ ps) e rest inner = within ps e rest inner
within (fault_closing ∷ ps) e rest inner = within ps e rest inner

-- what stands within a part
abbrev inner_pieces : ℕ → Here → List Piece
inner_pieces to here =
    faults_pieces to (told_to to here) here ++ plain_to to (behind_faults to (told_to to here) here)

inner_part : (to : ℕ) (here : Here) → IsInner (inner_pieces to here)
inner_part to here =
    inner_both (faults_pieces to (told_to to here) here) (plain_to to (behind_faults to (told_to to here) here))
    (inner_faults to (told_to to here) here) (inner_to to (behind_faults to (told_to to here) here))

-- a part is what stands within it, with what closes it
regrouped : (c : Class) (to : ℕ) (here : Here)
    → part_to (Some c) to here ≡ opening c ∷ (inner_pieces to here ++ closing ∷ [])
regrouped c to here =
    ap (λ ps. opening c ∷ ps)
    (sym (append_assoc (faults_pieces to (told_to to here) here) (plain_to to (behind_faults to (told_to to here) here))
    (closing ∷ [])))

before_element : (to : ℕ) (here : Here) → IsInner (part_to None to here)
before_element to here =
    inner_both (faults_pieces to (told_to to here) here) (plain_to to (behind_faults to (told_to to here) here) ++ [])
    (inner_faults to (told_to to here) here)
    (inner_both (plain_to to (behind_faults to (told_to to here) here)) []
    (inner_to to (behind_faults to (told_to to here) here)) tt)

abbrev start_tag_of : Class → List ℕ
start_tag_of c = codes "i class=" ++ letter_of c ∷ []

one_element : (c : Class) (to : ℕ) (here : Here) (rest : List Seen)
    → elements_from None (seen_of (part_to (Some c) to here) ++ rest)
    ≡ record {
      start_tag = start_tag_of c;
      text = shown_bytes (characters_of (part_to (Some c) to here));
    } ∷ elements_from None rest
one_element c to here rest =
    let inner : List Piece = inner_pieces to here in
    let e : SeenElement = record { start_tag = start_tag_of c; text = [] } in
    ap (λ ps. elements_from None (seen_of ps ++ rest)) (regrouped c to here)
    ∙ ap (elements_from (Some e)) (seen_both inner (closing ∷ []) rest)
    ∙ within inner e (tag (codes "/i") ∷ rest) (inner_part to here)
    ∙ ap (λ cs. record { start_tag = start_tag_of c; text = shown_bytes cs } ∷ elements_from None rest)
    (sym (
    ap characters_of (regrouped c to here)
    ∙ characters_append inner (closing ∷ [])
    ∙ append-nil (characters_of inner)
    ))

elements_are : (here : Here) (es : List Element) (rest : List Seen)
    → elements_from None (seen_of (pieces_from here es) ++ rest) ≡ elements_shown here es ++ elements_from None rest
elements_are here [] rest =
    outside (pieces_in here.lines here.left ++ late_faults here.faults) rest
    (inner_both (pieces_in here.lines here.left) (late_faults here.faults) (inner_in here.lines here.left)
    (inner_late here.faults))
elements_are here (e ∷ es) rest =
    let mid : Here = behind_part e.start here in
    let later : List Seen = seen_of (pieces_from (behind_element e here) es) ++ rest in
    ap (elements_from None) (
    seen_both (element_pieces e here) (pieces_from (behind_element e here) es) rest
    ∙ seen_both (part_to None e.start here) (part_to (Some e.class) e.end mid) later
    )
    ∙ outside (part_to None e.start here) (seen_of (part_to (Some e.class) e.end mid) ++ later)
    (before_element e.start here)
    ∙ one_element e.class e.end mid later
    ∙ ap (λ (xs : List SeenElement). element_shown e here ∷ xs) (elements_are (behind_element e here) es rest)

pub elements_source : (here : Here) (es : List Element)
    → elements_from None (seen_of (line 1 ∷ pieces_from here es) ++ tag (codes "/pre") ∷ [])
    ≡ elements_shown here es
elements_source here es =
    elements_are here es (tag (codes "/pre") ∷ []) ∙ append-nil (elements_shown here es)
