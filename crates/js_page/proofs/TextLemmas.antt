-- The text of pieces is that of their characters; and without their marks, those of a source are the source's.
use Rattle.std.proofs.Common.{◌≡◌, ℕ, ◌+◌, ◌-◌, Bool, true, false, List, [], ◌∷◌, ◌++◌, ◌∙◌, ap, sym, refl, append-nil, append_assoc}
use Rattle.std.specs.Prelude.{◌&&◌, ◌==◌, not, Option, Some, None, codes, encode_utf8, flat_map, if◌then◌else◌, map, min}
use Rattle.js_lines.proofs.ColumnLemmas.{front_behind}
use Rattle.js_lines.specs.Columns.{behind_front}
use Rattle.js_lines.specs.declared.columns.ColumnUnit.TheVariants.{Bytes}
use Rattle.js_page.proofs.LineLemmas.{pieces_both}
use Rattle.js_page.specs.Characters.{bytes_seen, character_seen, is_hidden, seen_hidden, shown}
use Rattle.js_page.specs.Elements.{Element, behind_element, element_pieces, late_faults, pieces_from}
use Rattle.js_page.specs.Lines.{begun, ends_before, ends_behind, line_behind, next_lines, pieces_at, pieces_before, pieces_in}
use Rattle.js_page.specs.Parts.{Here, behind_fault, behind_faults, behind_part, behind_stretch, class_closing}
use Rattle.js_page.specs.Parts.{class_opening, fault_pieces, faults_pieces, part_to, plain_to, stretch_to, told_to}
use Rattle.js_page.specs.Pieces.{Piece, character, characters_of, closing, fault_closing, fault_opening, line, opening}
use Rattle.js_page.specs.Pieces.{seen_of}
use Rattle.js_page.specs.Reading.{Seen, in_text, tag, text_seen}
use Rattle.js_page.specs.declared.class.Class.{Class}
use Rattle.js_page.specs.declared.lines.Lines.{Lines}
use Rattle.js_page.specs.declared.writing.Fault.{Fault}

pub text_append : (xs ys : List Seen) → text_seen (xs ++ ys) ≡ text_seen xs ++ text_seen ys
text_append [] ys = refl
text_append (in_text b ∷ xs) ys = ap (λ bs. b ∷ bs) (text_append xs ys)
text_append (tag t ∷ xs) ys = text_append xs ys

text_of_bytes : (bs : List ℕ) → text_seen (map in_text bs) ≡ bs
text_of_bytes [] = refl
text_of_bytes (b ∷ bs) = ap (λ xs. b ∷ xs) (text_of_bytes bs)

text_hidden : (h : Bool) (c : ℕ) → text_seen (seen_hidden h c) ≡ encode_utf8 (shown c)
text_hidden true c =
    text_append (bytes_seen c) (tag (codes "/b") ∷ [])
    ∙ append-nil (text_seen (bytes_seen c))
    ∙ text_of_bytes (encode_utf8 (shown c))
text_hidden false c = text_of_bytes (encode_utf8 (shown c))

-- the bytes of characters as they are shown
abbrev pub shown_bytes : List ℕ → List ℕ
shown_bytes cs = flat_map (λ c. encode_utf8 (shown c)) cs

pub text_of_pieces : (ps : List Piece) → text_seen (seen_of ps) ≡ shown_bytes (characters_of ps)
text_of_pieces [] = refl
text_of_pieces (character c ∷ ps) =
    text_append (character_seen c) (seen_of ps)
    ∙ ap (λ bs. bs ++ text_seen (seen_of ps)) (text_hidden (is_hidden c && not (c == 0)) c)
    ∙ ap (λ bs. encode_utf8 (shown c) ++ bs) (text_of_pieces ps)
text_of_pieces (line n ∷ ps) = text_of_pieces ps
text_of_pieces (opening c ∷ ps) = text_of_pieces ps
text_of_pieces (closing ∷ ps) = text_of_pieces ps
text_of_pieces (fault_opening title ∷ ps) = text_of_pieces ps
text_of_pieces (fault_closing ∷ ps) = text_of_pieces ps

pub characters_append : (ps qs : List Piece) → characters_of (ps ++ qs) ≡ characters_of ps ++ characters_of qs
characters_append [] qs = refl
characters_append (character c ∷ ps) qs = ap (λ cs. c ∷ cs) (characters_append ps qs)
characters_append (line n ∷ ps) qs = characters_append ps qs
characters_append (opening c ∷ ps) qs = characters_append ps qs
characters_append (closing ∷ ps) qs = characters_append ps qs
characters_append (fault_opening title ∷ ps) qs = characters_append ps qs
characters_append (fault_closing ∷ ps) qs = characters_append ps qs

no_character : (b : Bool) (n : ℕ) → characters_of (if b then line n ∷ [] else []) ≡ []
no_character true n = refl
no_character false n = refl

pub characters_at : (lines : Lines) (c : ℕ) → characters_of (pieces_at lines c) ≡ c ∷ []
characters_at lines c =
    characters_append (pieces_before lines c) (character c ∷ line_behind (begun lines c) c)
    ∙ ap (λ cs. cs ++ (c ∷ characters_of (line_behind (begun lines c) c)))
    (no_character (ends_before lines c) (lines.number + 1))
    ∙ ap (λ cs. c ∷ cs) (no_character (ends_behind c) (begun lines c + 1))

pub characters_in : (lines : Lines) (cs : List ℕ) → characters_of (pieces_in lines cs) ≡ cs
characters_in lines [] = refl
characters_in lines (c ∷ cs) =
    characters_append (pieces_at lines c) (pieces_in (next_lines lines c) cs)
    ∙ ap (λ xs. xs ++ characters_of (pieces_in (next_lines lines c) cs)) (characters_at lines c)
    ∙ ap (λ xs. c ∷ xs) (characters_in (next_lines lines c) cs)

-- the characters and the anchors among pieces
abbrev pub without_marks : List Piece → List Piece
without_marks [] = []
without_marks (character c ∷ ps) = character c ∷ without_marks ps
without_marks (line n ∷ ps) = line n ∷ without_marks ps
without_marks (opening c ∷ ps) = without_marks ps
without_marks (closing ∷ ps) = without_marks ps
without_marks (fault_opening title ∷ ps) = without_marks ps
without_marks (fault_closing ∷ ps) = without_marks ps

pub same_characters : (ps : List Piece) → characters_of (without_marks ps) ≡ characters_of ps
same_characters [] = refl
same_characters (character c ∷ ps) = ap (λ cs. c ∷ cs) (same_characters ps)
same_characters (line n ∷ ps) = same_characters ps
same_characters (opening c ∷ ps) = same_characters ps
same_characters (closing ∷ ps) = same_characters ps
same_characters (fault_opening title ∷ ps) = same_characters ps
same_characters (fault_closing ∷ ps) = same_characters ps

without_append : (ps qs : List Piece) → without_marks (ps ++ qs) ≡ without_marks ps ++ without_marks qs
without_append [] qs = refl
without_append (character c ∷ ps) qs = ap (λ rs. character c ∷ rs) (without_append ps qs)
without_append (line n ∷ ps) qs = ap (λ rs. line n ∷ rs) (without_append ps qs)
without_append (opening c ∷ ps) qs = without_append ps qs
without_append (closing ∷ ps) qs = without_append ps qs
without_append (fault_opening title ∷ ps) qs = without_append ps qs
without_append (fault_closing ∷ ps) qs = without_append ps qs

kept_line : (b : Bool) (n : ℕ)
    → without_marks (if b then line n ∷ [] else []) ≡ (if b then line n ∷ [] else [])
kept_line true n = refl
kept_line false n = refl

kept_at : (lines : Lines) (c : ℕ) → without_marks (pieces_at lines c) ≡ pieces_at lines c
kept_at lines c =
    without_append (pieces_before lines c) (character c ∷ line_behind (begun lines c) c)
    ∙ ap (λ ps. ps ++ (character c ∷ without_marks (line_behind (begun lines c) c)))
    (kept_line (ends_before lines c) (lines.number + 1))
    ∙ ap (λ ps. pieces_before lines c ++ (character c ∷ ps)) (kept_line (ends_behind c) (begun lines c + 1))

kept_in : (lines : Lines) (cs : List ℕ) → without_marks (pieces_in lines cs) ≡ pieces_in lines cs
kept_in lines [] = refl
kept_in lines (c ∷ cs) =
    without_append (pieces_at lines c) (pieces_in (next_lines lines c) cs)
    ∙ ap (λ ps. ps ++ without_marks (pieces_in (next_lines lines c) cs)) (kept_at lines c)
    ∙ ap (λ ps. pieces_at lines c ++ ps) (kept_in (next_lines lines c) cs)

no_late : (faults : List Fault) → without_marks (late_faults faults) ≡ []
no_late [] = refl
no_late (f ∷ fs) = no_late fs

no_class_opening : (c : Option Class) → without_marks (class_opening c) ≡ []
no_class_opening None = refl
no_class_opening (Some c) = refl

no_class_closing : (c : Option Class) → without_marks (class_closing c) ≡ []
no_class_closing None = refl
no_class_closing (Some c) = refl

-- marks before pieces and behind them
behind_none : (ps qs : List Piece) → without_marks ps ≡ [] → without_marks (ps ++ qs) ≡ without_marks qs
behind_none ps qs none = without_append ps qs ∙ ap (λ rs. rs ++ without_marks qs) none

before_none : (ps qs : List Piece) → without_marks qs ≡ [] → without_marks (ps ++ qs) ≡ without_marks ps
before_none ps qs none =
    without_append ps qs ∙ ap (λ rs. without_marks ps ++ rs) none ∙ append-nil (without_marks ps)

-- the characters that are left, with their anchors
abbrev left_pieces : Here → List Piece
left_pieces here = pieces_in here.lines here.left

-- The pieces have the characters that are left, with their anchors, up to where the writing is behind them.
abbrev Keeps : List Piece → Here → Here → Type 0
Keeps ps old new = without_marks ps ++ left_pieces new ≡ left_pieces old

keeps_both : (ps qs : List Piece) (first second third : Here) → Keeps ps first second → Keeps qs second third
    → Keeps (ps ++ qs) first third
keeps_both ps qs first second third front back =
    ap (λ rs. rs ++ left_pieces third) (without_append ps qs)
    ∙ append_assoc (without_marks ps) (without_marks qs) (left_pieces third)
    ∙ ap (λ rs. without_marks ps ++ rs) back
    ∙ front

behind_marks : (ps qs : List Piece) (old new : Here) → without_marks ps ≡ [] → Keeps qs old new → Keeps (ps ++ qs) old new
behind_marks ps qs old new none keeps = ap (λ rs. rs ++ left_pieces new) (behind_none ps qs none) ∙ keeps

before_marks : (ps qs : List Piece) (old new : Here) → without_marks qs ≡ [] → Keeps ps old new → Keeps (ps ++ qs) old new
before_marks ps qs old new none keeps = ap (λ rs. rs ++ left_pieces new) (before_none ps qs none) ∙ keeps

plain_keeps : (to : ℕ) (here : Here) → Keeps (plain_to to here) here (behind_stretch to here)
plain_keeps to here =
    ap (λ ps. ps ++ left_pieces (behind_stretch to here)) (kept_in here.lines (stretch_to to here))
    ∙ sym (pieces_both here.lines (stretch_to to here) (behind_front Bytes (to - here.place) here.left))
    ∙ ap (pieces_in here.lines) (front_behind Bytes (to - here.place) here.left)

fault_keeps : (to : ℕ) (fault : Fault) (here : Here) → Keeps (fault_pieces to fault here) here (behind_fault to fault here)
fault_keeps to fault here =
    let mid : Here = behind_stretch fault.start here in
    keeps_both (plain_to fault.start here)
    (fault_opening fault.title ∷ (plain_to (min fault.end to) mid ++ fault_closing ∷ [])) here mid
    (behind_fault to fault here) (plain_keeps fault.start here)
    (before_marks (plain_to (min fault.end to) mid) (fault_closing ∷ []) mid (behind_fault to fault here) refl
    (plain_keeps (min fault.end to) mid))

faults_keep : (to : ℕ) (faults : List Fault) (here : Here)
    → Keeps (faults_pieces to faults here) here (behind_faults to faults here)
faults_keep to [] here = refl
faults_keep to (fault ∷ faults) here =
    keeps_both (fault_pieces to fault here) (faults_pieces to faults (behind_fault to fault here)) here
    (behind_fault to fault here) (behind_faults to faults (behind_fault to fault here)) (fault_keeps to fault here)
    (faults_keep to faults (behind_fault to fault here))

part_keeps : (c : Option Class) (to : ℕ) (here : Here) → Keeps (part_to c to here) here (behind_part to here)
part_keeps c to here =
    let told : List Fault = told_to to here in
    let mid : Here = behind_faults to told here in
    behind_marks (class_opening c) (faults_pieces to told here ++ (plain_to to mid ++ class_closing c)) here
    (behind_part to here) (no_class_opening c)
    (keeps_both (faults_pieces to told here) (plain_to to mid ++ class_closing c) here mid (behind_part to here)
    (faults_keep to told here)
    (before_marks (plain_to to mid) (class_closing c) mid (behind_part to here) (no_class_closing c) (plain_keeps to mid)))

element_keeps : (e : Element) (here : Here) → Keeps (element_pieces e here) here (behind_element e here)
element_keeps e here =
    keeps_both (part_to None e.start here) (part_to (Some e.class) e.end (behind_part e.start here)) here
    (behind_part e.start here) (behind_element e here) (part_keeps None e.start here)
    (part_keeps (Some e.class) e.end (behind_part e.start here))

pub kept_from : (here : Here) (es : List Element) → without_marks (pieces_from here es) ≡ left_pieces here
kept_from here [] =
    before_none (pieces_in here.lines here.left) (late_faults here.faults) (no_late here.faults)
    ∙ kept_in here.lines here.left
kept_from here (e ∷ es) =
    without_append (element_pieces e here) (pieces_from (behind_element e here) es)
    ∙ ap (λ ps. without_marks (element_pieces e here) ++ ps) (kept_from (behind_element e here) es)
    ∙ element_keeps e here

pub characters_from : (here : Here) (es : List Element) → characters_of (pieces_from here es) ≡ here.left
characters_from here es =
    sym (same_characters (pieces_from here es)) ∙ ap characters_of (kept_from here es) ∙ characters_in here.lines here.left
