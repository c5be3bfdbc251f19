-- What is told of a source as JSON, in order of place.
use Rattle.std.specs.Prelude.{ℕ, suc, List, [], ◌∷◌, ◌++◌, map, Option, Some, None}
use Rattle.std.specs.List.Sorted.{IsNonDecreasingBy, IsPermutation, IsStableByKey}
use Rattle.std.specs.Ordering.{nat_cmp}
use Rattle.js_grammar.specs.Outcome.{Findings}
use Rattle.js_kind.specs.TokenParts.{TokenParts}
use Rattle.js_text.specs.Diagnostic.{diagnostic_span}
use Rattle.js_text.specs.declared.comment.Comment.{Comment}
use Rattle.js_text.specs.declared.diagnostic.Diagnostic.{Diagnostic}
use Rattle.js_text.specs.declared.span.Span.{Span}
use Rattle.js_totsenak.specs.declared.items.Item.{Item}
use Rattle.js_totsenak.specs.declared.items.Subject.TheVariants as subject

-- where a span starts; what is about the whole source stands at its start
abbrev pub span_start : Option Span → ℕ
span_start None = 0
span_start (Some span) = span.start

abbrev pub comment_item : Comment → Item
comment_item comment = record { start = comment.span.start; subject = subject.Comment comment }

abbrev pub diagnostic_item : Diagnostic → Item
diagnostic_item d = record { start = span_start (diagnostic_span d); subject = subject.Diagnostic d }

abbrev pub deferred_item : Diagnostic → Item
deferred_item d = record { start = span_start (diagnostic_span d); subject = subject.Deferred d }

abbrev pub warning_item : Span → Item
warning_item span = record { start = span.start; subject = subject.Warning span }

abbrev pub token_item : ℕ → TokenParts → Item
token_item index token = record { start = token.start; subject = subject.Token index }

-- the items of tokens, the first of which has this index
abbrev pub token_items : ℕ → List TokenParts → List Item
token_items index [] = []
token_items index (token ∷ tokens) = token_item index token ∷ token_items (suc index) tokens

-- The items of a source: its comments, its diagnostics, those that count in a module alone, its warnings and its
-- tokens.
abbrev pub items_of : Findings → List TokenParts → List Item
items_of found tokens =
    map comment_item found.comments ++ map diagnostic_item found.diagnostics ++ map deferred_item found.deferred
    ++ map warning_item found.warnings ++ token_items 0 tokens

abbrev pub item_start : Item → ℕ
item_start item = item.start

-- The items are put in order of place: by their starts, and those that start at the same place in the order in which
-- they stood.
pub record ArePlaced (items placed : List Item) : Type 0 where
  -- all items, each once
  pub permutation : IsPermutation items placed
  pub ordered : IsNonDecreasingBy item_start placed
  pub stable : IsStableByKey item_start nat_cmp items placed
