-- A list of a caller that is filled with the offsets at which lines begin.
use Rattle.std.proofs.Common.{◌≡◌, ℕ, suc, ◌+◌, ◌<◌, ◌≤◌, ◌^◌, Bool, true, false, List, [], ◌∷◌, ◌++◌, length, take, drop, get_or}
use Rattle.std.proofs.Common.{sym, ap, ◌∙◌, arith, ◌⊎◌, inl, inr, Some, None, slice_get, if◌then◌else◌, length-drop}
use Rattle.std.specs.Char.{len_utf8}
use Rattle.std.specs.Str.{chars}
use Rattle.std.proofs.lemmas.List.{get_or-drop, length-take-le, map-id, take_all, take_more}
use Rattle.std.proofs.lemmas.Option.{get_or_from_slice_get, slice_get_cases, slice_get_within}
use Rattle.std.proofs.lemmas.Str.{len_utf8_bounds}
use Rattle.js_lines.proofs.LineLemmas.{bytes_of_text}
use Rattle.js_lines.specs.Columns.{length_in}
use Rattle.js_lines.specs.Lines.{AreLineStarts, ends_line, line_starts, starts_behind}
use Rattle.js_lines.specs.declared.columns.ColumnUnit.TheVariants.{Bytes}
use Rattle.js_lines.specs.declared.line_ends.LineEnds.{LineEnds}
use Rattle.js_edited_lines.specs.Edited.{KeptLines}
use Rattle.js_document_c.specs.Held.{AreLinesBy, HeldState}
use Rattle.js_lex_c.specs.Documents.{GivesLines}
use Rattle.js_lex_c.specs.Filled.{PutsOn, filled}
use Rattle.js_lex_c.proofs.DocumentFill.{filled_full}

-- no more lines begin behind line ends than bytes stand there
few_starts : (ends : LineEnds) (at : ℕ) (cs : List ℕ) → length (starts_behind ends at cs) ≤ length_in Bytes cs
few_starts ends at [] = omega arith
few_starts ends at (c ∷ cs) = by_test (ends_line ends c cs) (few_starts ends (at + len_utf8 c) cs)
  where
    by_test : (b : Bool) → length (starts_behind ends (at + len_utf8 c) cs) ≤ length_in Bytes cs
        → length (if b then (at + len_utf8 c) ∷ starts_behind ends (at + len_utf8 c) cs
        else starts_behind ends (at + len_utf8 c) cs) ≤ len_utf8 c + length_in Bytes cs
    by_test true few = omega (arith, (len_utf8_bounds c).0, few)
    by_test false few = omega (arith, few)

-- so a text has no more than 2 ^ 32 lines
pub few_lines : (ends : LineEnds) (text starts : List ℕ) → AreLineStarts ends text starts → length starts ≤ 2 ^ 32
few_lines ends text starts are =
    let size : length starts ≡ suc (length (starts_behind ends 0 (chars text))) = ap length are.starts_are in
    omega (arith, size, few_starts ends 0 (chars text), bytes_of_text text are.utf8, are.short)

-- the lines that are kept are those of the text
pub lines_given : (held : HeldState) (lines : KeptLines) (from : ℕ) (old new : List ℕ) (count : ℕ)
    → AreLinesBy held.document.text held.ends lines → new ≡ filled old (drop from lines.starts)
    → count ≡ length lines.starts → GivesLines from old new count held
lines_given held lines from old new count are filled_is counted =
    let starts_are : lines.starts ≡ line_starts held.ends held.document.text =
    are.are.are.starts_are ∙ ap (λ ends. line_starts ends held.document.text) are.ends_are in record {
      starts = filled_is ∙ ap (λ starts. filled old (drop from starts)) starts_are;
      counted = counted ∙ ap length starts_are;
    }

-- A line's start stands behind those that were put.
pub record IsNextStart (starts : List ℕ) (from place start : ℕ) : Type 0 where
  pub within : place < length (drop from starts)
  pub taken : take (place + 1) (drop from starts) ≡ take place (drop from starts) ++ start ∷ []

pub next_start : (starts : List ℕ) (from place line start : ℕ) → line ≡ from + place
    → Some start ≡ slice_get starts line → IsNextStart starts from place start
next_start starts from place line start at is =
    let there : slice_get starts (from + place) ≡ Some start = ap (slice_get starts) (sym at) ∙ sym is in
    let inside : from + place < length starts = slice_get_within starts (from + place) start there in
    let within : place < length (drop from starts) = omega (arith, inside, length-drop from starts) in
    let here : get_or (drop from starts) place 0 ≡ start =
    get_or-drop from starts place 0 ∙ get_or_from_slice_get starts (from + place) start 0 there in record {
      within = within;
      taken = take_more (drop from starts) place 0 within ∙ ap (λ x. take place (drop from starts) ++ x ∷ []) here;
    }

-- one more was put
pub start_put : (starts room old new : List ℕ) (from place start : ℕ) → IsNextStart starts from place start
    → old ≡ filled room (take place (drop from starts)) → PutsOn place (start ∷ []) old new
    → new ≡ filled room (take (place + 1) (drop from starts))
start_put starts room old new from place start next is put =
    let count : place ≡ length (take place (drop from starts)) =
    sym (length-take-le place (drop from starts) (omega (arith, next.within))) in
    put room (take place (drop from starts)) count is ∙ ap (filled room) (sym next.taken)

-- No line is left.
pub none_left : (starts : List ℕ) (from place line : ℕ) → line ≡ from + place → None ≡ slice_get starts line
    → length (drop from starts) ≤ place
none_left starts from place line at none = by_case (slice_get_cases starts (from + place)).1
  where
    by_case : (((x : ℕ) × (from + place < length starts) × (slice_get starts (from + place) ≡ Some x)
        × (get_or starts (from + place) x ≡ x))
        ⊎ ((length starts ≤ from + place) × (slice_get starts (from + place) ≡ None)))
        → length (drop from starts) ≤ place
    by_case (inl there) =
        let same : None ≡ Some there.0 = none ∙ ap (slice_get starts) at ∙ there.2 in absurd (cc)
    by_case (inr past) = omega (arith, past.0, length-drop from starts)

pub starts_out : (starts room now : List ℕ) (from place : ℕ) → length (drop from starts) ≤ place
    → now ≡ filled room (take place (drop from starts)) → now ≡ filled room (drop from starts)
starts_out starts room now from place out is = is ∙ ap (filled room) (take_all place (drop from starts) out)

-- Behind the last number of a line stands none.
pub no_more_lines : (starts : List ℕ) (from place line : ℕ) → length starts ≤ 2 ^ 32 → line ≡ from + place
    → 2 ^ 32 ≤ line + 1 → length (drop from starts) ≤ place + 1
no_more_lines starts from place line few at last = omega (arith, few, at, last, length-drop from starts)

-- There is no room left.
pub starts_full : (starts room now : List ℕ) (from place : ℕ) → place ≤ length (drop from starts)
    → length now ≤ place → now ≡ filled room (take place (drop from starts)) → now ≡ filled room (drop from starts)
starts_full starts room now from place within past is =
    let all = drop from starts in
    filled_full (λ x. x) room now all place within past (is ∙ ap (filled room) (sym (map-id (take place all))))
    ∙ ap (filled room) (map-id all)
