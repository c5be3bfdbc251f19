-- What a reader sees of pieces that are written.
use Rattle.std.proofs.Common.{◌≡◌, ℕ, List, [], ◌∷◌, ◌++◌, ◌∙◌, ap, sym, refl, append_assoc}
use Rattle.std.specs.Prelude.{chars, codes, false, flat_map}
use Rattle.std.specs.Fmt.{decimal}
use Rattle.js_page.proofs.Free.{digits_free}
use Rattle.js_page.proofs.ReadCharacters.{read_character, title_free}
use Rattle.js_page.proofs.ReadSteps.{read_in_tag, read_in_value}
use Rattle.js_page.specs.Characters.{in_title}
use Rattle.js_page.specs.Pieces.{Piece, bytes_of, character, closing, fault_closing, fault_opening, line, opening}
use Rattle.js_page.specs.Pieces.{piece_bytes, piece_seen, seen_of}
use Rattle.js_page.specs.Reading.{Seen, in_tag, in_value, reads_text, seen_from}
use Rattle.js_page.specs.declared.class.Class.{Class}
use Rattle.js_page.specs.declared.class.Class.TheVariants as class

read_opening : (c : Class) (rest : List ℕ)
    → seen_from reads_text (piece_bytes (opening c) ++ rest) ≡ piece_seen (opening c) ++ seen_from reads_text rest
read_opening class.Reserved rest = refl
read_opening class.Word rest = refl
read_opening class.Name rest = refl
read_opening class.PrivateName rest = refl
read_opening class.Number rest = refl
read_opening class.Text rest = refl
read_opening class.Template rest = refl
read_opening class.RegularExpression rest = refl
read_opening class.Punctuator rest = refl
read_opening class.JsxText rest = refl
read_opening class.Comment rest = refl
read_opening class.Documentation rest = refl
read_opening class.Licence rest = refl
read_opening class.Annotation rest = refl
read_opening class.End rest = refl
read_opening class.Unknown rest = refl

read_piece : (p : Piece) (rest : List ℕ)
    → seen_from reads_text (piece_bytes p ++ rest) ≡ piece_seen p ++ seen_from reads_text rest
read_piece (character c) rest = read_character c rest
read_piece (line n) rest =
    ap (seen_from (in_tag (codes "a id=L"))) (append_assoc (decimal n) (codes "></a>") rest)
    ∙ read_in_tag (decimal n) (codes "a id=L") (codes "></a>" ++ rest) (digits_free 10 false n)
read_piece (opening c) rest = read_opening c rest
read_piece closing rest = refl
read_piece (fault_opening title) rest =
    ap (seen_from (in_value (codes "u title=\""))) (append_assoc (flat_map in_title (chars title)) (codes "\">") rest)
    ∙ read_in_value (flat_map in_title (chars title)) (codes "u title=\"") (codes "\">" ++ rest) (title_free (chars title))
read_piece fault_closing rest = refl

pub read_pieces : (ps : List Piece) (rest : List ℕ)
    → seen_from reads_text (bytes_of ps ++ rest) ≡ seen_of ps ++ seen_from reads_text rest
read_pieces [] rest = refl
read_pieces (p ∷ ps) rest =
    ap (seen_from reads_text) (append_assoc (piece_bytes p) (bytes_of ps) rest)
    ∙ read_piece p (bytes_of ps ++ rest)
    ∙ ap (λ (xs : List Seen). piece_seen p ++ xs) (read_pieces ps rest)
    ∙ sym (append_assoc (piece_seen p) (seen_of ps) (seen_from reads_text rest))
