-- Templates (ECMA-262 12.9.6): their items, and what is read of a part of one, good or at fault.
use Rattle.std.specs.Prelude.{◌≡◌, ℕ, Bool, true, List, [], ◌∷◌, ◌++◌, drop, ◌==◌, ◌||◌, codes, Option}
use Rattle.std.specs.Prelude.{Some, None}
use Rattle.std.specs.Prelude.{if◌then◌else◌}
use Rattle.js_text.specs.Ascii.{line_feed, carriage_return, backslash, grave_accent}
use Rattle.js_text.specs.Characters.{begins}
use Rattle.js_kind.specs.declared.kind.Kind.{Kind}
use Rattle.js_kind.specs.declared.kind.Kind.TheVariants.{NoSubstitutionTemplate, TemplateHead}
use Rattle.js_grammar.specs.Gap.{is_prefix}
use Rattle.js_grammar.specs.StringItems.{StringItem, contains_bad_escape, ordinary_item, escape, StringItems, all_items}
use Rattle.js_grammar.specs.StringItems.{string_text}
use Rattle.js_grammar.specs.Reading.{Reading, read_up_to, size_of}
use Rattle.js_grammar.specs.StringItems.{string_units, contains_escape, item_reports, StringValue}
use Rattle.js_grammar.specs.StringItems.{unterminated, quoted_value}
use Rattle.js_grammar.specs.StringItems.Fault.{no_fault}
use Rattle.js_grammar.specs.StringItems.StringValue.{units, bad_value}

-- a backquote or a `${` is next
abbrev pub ends_part : List ℕ → Bool
ends_part text = begins (λ c. c == grave_accent) text || is_prefix (codes "${") text

-- a line terminator, which stands for LF
abbrev pub line_end_item : List ℕ → List ℕ → StringItem
line_end_item xs rest =
    record { text = xs; units = line_feed ∷ []; is_escaped = true; fault = no_fault; rest = rest }

-- CR LF, or CR alone
unfoldable pub carriage_return_item : List ℕ → StringItem
carriage_return_item cs =
    if begins (λ d. d == line_feed) cs then line_end_item (carriage_return ∷ line_feed ∷ []) (drop 1 cs)
    else line_end_item (carriage_return ∷ []) cs

-- The item of a template that the text begins with.
abbrev pub template_item : List ℕ → Option StringItem
template_item [] = None
template_item (c ∷ cs) =
    if c == backslash then Some (escape true cs)
    else if ends_part (c ∷ cs) then None
    else if c == carriage_return then Some (carriage_return_item cs)
    else Some (ordinary_item c cs)

-- the items behind the mark that begins a part
abbrev pub template_items : List ℕ → StringItems
template_items text = all_items template_item text

-- the value of the items of a part
unfoldable pub template_value : List StringItem → StringValue
template_value items = if contains_bad_escape items then bad_value else units (string_units items)

-- What is read of a part that a mark ends, of which this is left behind the mark.
abbrev pub terminated_part : Kind → List ℕ → StringItems → List ℕ → Reading
terminated_part kind text found rest = record (read_up_to kind text rest) {
  escaped = contains_escape found.items;
  value =
      quoted_value (contains_escape found.items) (template_value found.items) kind
      (size_of (read_up_to kind text rest));
  diagnostics = item_reports true 0 1 found.items;
}

-- what is read of items behind the mark that the text begins with, by what stands behind them
unfoldable pub part_of_items : Kind → Kind → List ℕ → StringItems → Reading
part_of_items substitute tail text found =
    if begins (λ c. c == grave_accent) found.rest then terminated_part tail text found (drop 1 found.rest)
    else if is_prefix (codes "${") found.rest then terminated_part substitute text found (drop 2 found.rest)
    else unterminated true text found

-- What is read of a part of a template: of the kind `substitute` where a `${` ends it, and `tail` where a backquote
-- does. The text begins with the mark of one byte that begins the part.
abbrev pub template_part_reading : Kind → Kind → List ℕ → Reading
template_part_reading substitute tail text = part_of_items substitute tail text (template_items (drop 1 text))

-- The mark `opening`, all items that follow it, and then the mark `closing` are the characters xs, where ys follow
-- them.
pub record IsPart (opening : ℕ) (closing xs ys : List ℕ) : Type 0 where
  pub items : List StringItem
  pub here : xs ≡ opening ∷ (string_text items ++ closing)
  pub found : template_items (string_text items ++ (closing ++ ys)) ≡ record { items = items; rest = closing ++ ys }

-- The characters xs are a template or the first part of one, of this kind, where ys follow them. An escape that stands
-- for nothing is allowed: the value is bad then.
pub data IsTemplatePart (xs ys : List ℕ) (kind : Kind) : Type 0 where
  no_substitution : IsPart grave_accent (codes "`") xs ys → kind ≡ NoSubstitutionTemplate → IsTemplatePart xs ys kind
  head : IsPart grave_accent (codes "${") xs ys → kind ≡ TemplateHead → IsTemplatePart xs ys kind
