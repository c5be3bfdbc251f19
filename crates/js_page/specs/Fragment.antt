-- Sources as elements of a page.
use Rattle.std.specs.Prelude.{◌≡◌, ℕ, List, [], ◌∷◌, ◌++◌, Some, chars, codes, encode_utf8, flat_map}
use Rattle.js_kind.specs.TokenParts.{TokenParts}
use Rattle.js_text.specs.declared.comment.Comment.{Comment}
use Rattle.js_page.specs.Characters.{shown}
use Rattle.js_page.specs.Classes.{letter_of}
use Rattle.js_page.specs.Elements.{Element, behind_element, elements_of, pieces_from}
use Rattle.js_page.specs.Lines.{first_line}
use Rattle.js_page.specs.Numbered.{AreNumbered}
use Rattle.js_page.specs.Parts.{Here, behind_part, part_to}
use Rattle.js_page.specs.Pieces.{Piece, bytes_of, characters_of, line, seen_of}
use Rattle.js_page.specs.Reading.{Seen, SeenElement, elements_seen, seen_in, tag, text_seen}
use Rattle.js_page.specs.declared.writing.Fault.{Fault}

-- nothing of the source is written
abbrev pub at_start : List ℕ → List Fault → Here
at_start source faults = record { lines = first_line; left = chars source; place = 0; faults = faults }

-- the pieces of a source: the anchor of its first line, its elements, and what stands around these
abbrev pub source_pieces : List ℕ → List TokenParts → List Comment → List Fault → List Piece
source_pieces source tokens comments faults =
    line 1 ∷ pieces_from (at_start source faults) (elements_of comments tokens)

-- the source as a `pre`
abbrev pub fragment_text : List ℕ → List TokenParts → List Comment → List Fault → List ℕ
fragment_text source tokens comments faults =
    codes "<pre class=totsenak>" ++ bytes_of (source_pieces source tokens comments faults) ++ codes "</pre>"

-- what is seen of it
abbrev pub fragment_seen : List ℕ → List TokenParts → List Comment → List Fault → List Seen
fragment_seen source tokens comments faults =
    tag (codes "pre class=totsenak") ∷ seen_of (source_pieces source tokens comments faults) ++ tag (codes "/pre") ∷ []

-- the source as it is shown: character by character, with a sign for each NUL
abbrev pub source_shown : List ℕ → List ℕ
source_shown source = flat_map (λ c. encode_utf8 (shown c)) (chars source)

-- an element as it is seen, where its writing begins
abbrev pub element_shown : Element → Here → SeenElement
element_shown e here = record {
  start_tag = codes "i class=" ++ letter_of e.class ∷ [];
  text = flat_map (λ c. encode_utf8 (shown c))
      (characters_of (part_to (Some e.class) e.end (behind_part e.start here)));
}

-- the elements as they are seen: one for each, in order, with its class
abbrev pub elements_shown : Here → List Element → List SeenElement
elements_shown here [] = []
elements_shown here (e ∷ es) = element_shown e here ∷ elements_shown (behind_element e here) es

-- The text shows a source: it is a `pre` with an element for each token and each comment; a reader of HTML sees the tags
-- of these and the bytes of the source, and the text between the tags is the source, byte by byte. It sees one `i` for
-- each token and each comment, in order, with its class. Each anchor tells its line.
pub record ShowsSource (source : List ℕ) (tokens : List TokenParts) (comments : List Comment) (faults : List Fault)
    (text : List ℕ) : Type 0 where
  pub text_is : text ≡ fragment_text source tokens comments faults
  pub seen_is : seen_in text ≡ fragment_seen source tokens comments faults
  pub shows : text_seen (seen_in text) ≡ source_shown source
  pub elements :
      elements_seen (seen_in text) ≡ elements_shown (at_start source faults) (elements_of comments tokens)
  pub numbered : AreNumbered [] (source_pieces source tokens comments faults)

-- The text shows a source behind what stands before.
pub record ShowsBehind (before source : List ℕ) (tokens : List TokenParts) (comments : List Comment)
    (faults : List Fault) (text : List ℕ) : Type 0 where
  pub shown : List ℕ
  pub text_is : text ≡ before ++ shown
  pub shows : ShowsSource source tokens comments faults shown
