-- A source as a `pre`, and what a reader sees of it.
use Rattle.std.proofs.Common.{◌≡◌, ℕ, List, [], ◌∷◌, ◌++◌, ◌∙◌, ap, append-nil, append_assoc}
use Rattle.std.specs.Prelude.{chars, codes}
use Rattle.js_kind.specs.TokenParts.{TokenParts}
use Rattle.js_text.specs.declared.comment.Comment.{Comment}
use Rattle.js_page.proofs.ReadPieces.{read_pieces}
use Rattle.js_page.proofs.ElementLemmas.{elements_source}
use Rattle.js_page.proofs.NumberLemmas.{numbered_source}
use Rattle.js_page.proofs.TextLemmas.{characters_from, kept_from, shown_bytes, text_append, text_of_pieces}
use Rattle.js_page.specs.Elements.{elements_of, pieces_from}
use Rattle.js_page.specs.Fragment.{ShowsSource, at_start, fragment_seen, fragment_text, source_pieces}
use Rattle.js_page.specs.Pieces.{Piece, bytes_of, line, seen_of}
use Rattle.js_page.specs.Reading.{Seen, behind_pre, elements_seen, seen_from, seen_in, tag, text_seen}
use Rattle.js_page.specs.declared.writing.Fault.{Fault}

-- right behind the start tag of a `pre` stands the anchor of the first line, and no line end
read_source : (ps : List Piece)
    → seen_from behind_pre (bytes_of (line 1 ∷ ps) ++ codes "</pre>")
    ≡ seen_of (line 1 ∷ ps) ++ tag (codes "/pre") ∷ []
read_source ps = read_pieces (line 1 ∷ ps) (codes "</pre>")

pub shows_source : (source : List ℕ) (tokens : List TokenParts) (comments : List Comment) (faults : List Fault)
    (text : List ℕ) → text ≡ fragment_text source tokens comments faults
    → ShowsSource source tokens comments faults text
shows_source source tokens comments faults text is =
    let ps : List Piece = source_pieces source tokens comments faults in
    let rest : List Piece = pieces_from (at_start source faults) (elements_of comments tokens) in
    let seen_here : seen_in text ≡ fragment_seen source tokens comments faults =
    ap seen_in is ∙ ap (λ (xs : List Seen). tag (codes "pre class=totsenak") ∷ xs) (read_source rest) in
    record {
      text_is = is;
      seen_is = seen_here;
      shows =
          ap text_seen seen_here
          ∙ text_append (seen_of ps) (tag (codes "/pre") ∷ [])
          ∙ append-nil (text_seen (seen_of ps))
          ∙ text_of_pieces ps
          ∙ ap shown_bytes (characters_from (at_start source faults) (elements_of comments tokens));
      elements =
          ap elements_seen seen_here
          ∙ elements_source (at_start source faults) (elements_of comments tokens);
      numbered = numbered_source (chars source) rest (kept_from (at_start source faults) (elements_of comments tokens));
    }

-- what stands before a source
pub behind : (before head first written end : List ℕ)
    → (before ++ (head ++ first) ++ written) ++ end ≡ before ++ ((head ++ (first ++ written)) ++ end)
behind before head first written end = simp append_assoc
