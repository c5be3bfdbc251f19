-- Lists to which tokens are added one by one.
use Rattle.std.proofs.Common.{◌≡◌, ℕ, zero, suc, Bool, true, false, List, [], ◌∷◌, ◌++◌, length, map, refl, sym}
use Rattle.std.proofs.Common.{◌∙◌, ap, subst, inl, inr, Option, Some, None, append-nil, append_assoc}
use Rattle.std.proofs.Common.{get_or, arith, ◌≤◌}
use Rattle.std.proofs.lemmas.Bool.{eq-eqb, eqb-true}
use Rattle.std.proofs.lemmas.List.{length-map, map-append}
use Rattle.std.specs.Prelude.{nat_eq, slice_get, if◌then◌else◌}
use Rattle.js_text.specs.declared.reg_exp_flags.RegexInfo.{RegexInfo}
use Rattle.js_text.specs.declared.source_type.SourceType.{SourceType}
use Rattle.js_text.specs.declared.value.RowValue.{RowValue}
use Rattle.js_text.specs.declared.span.Span.{Span}
use Rattle.js_text.specs.declared.value.RowValue.TheVariants.{Slice}
use Rattle.js_grammar.specs.Outcome.{Findings}
use Rattle.js_grammar.specs.TokenText.{is_valued, text_end, text_start}
use Rattle.js_kind.specs.TokenParts.{TokenParts}
use Rattle.js_source.specs.Offsets.{Placed, value_of}
use Rattle.js_session.specs.declared.command.Command.{Command}
use Rattle.js_session.specs.declared.report.Report.{Report}
use Rattle.js_choose.specs.Rules.{Rule}
use Rattle.js_lists.specs.LiveLists.{TakesChosen, TakesCommands, TakesReport, live_taken}
use Rattle.js_lists.specs.Lists.{AddsFound, AddsRegex, AddsTaken, AddsValue, AreListsOf, HasTaken, IsTold}
use Rattle.js_lists.specs.Lists.{KeepsValue, ListsOfChosen, ListsOfCommands, regex_of}
use Rattle.js_lists.specs.Taken.{Taken, TakesEach}
use Rattle.js_lists.specs.declared.lists.LiveLists.{LiveLists}

-- the item at the end, where one more was added
get_last : (xs : List Taken) (x : Taken) → slice_get (xs ++ x ∷ []) (length xs) ≡ Some x
get_last [] x = refl
get_last (y ∷ xs) x = get_last xs x

-- the items elsewhere
get_other : (xs : List Taken) (x : Taken) (index : ℕ) → ¬ (index ≡ length xs)
    → slice_get (xs ++ x ∷ []) index ≡ slice_get xs index
get_other [] x zero other = absurd (other refl)
get_other [] x (suc index) other = refl
get_other (y ∷ xs) x zero other = refl
get_other (y ∷ xs) x (suc index) other = get_other xs x index (λ same. other (ap suc same))

get_none : (xs : List Taken) → slice_get xs (length xs) ≡ None
get_none [] = refl
get_none (y ∷ xs) = get_none xs

-- the item at an index, with one more at the end
get_more : (xs : List Taken) (x : Taken) (index : ℕ)
    → slice_get (xs ++ x ∷ []) index ≡ (if nat_eq index (length xs) then Some x else slice_get xs index)
get_more xs x index = by_test (nat_eq index (length xs)) refl
  where
    by_test : (b : Bool) → nat_eq index (length xs) ≡ b
        → slice_get (xs ++ x ∷ []) index ≡ (if b then Some x else slice_get xs index)
    by_test true e = ap (slice_get (xs ++ x ∷ [])) (eqb-true index (length xs) e) ∙ get_last xs x
    by_test false e =
        get_other xs x index
        (λ same. absurd (let no : true ≡ false = sym (eq-eqb index (length xs) same) ∙ e in cc))

-- no item is at the end
get_end : (xs : List Taken) (index : ℕ) → nat_eq index (length xs) ≡ true → slice_get xs index ≡ None
get_end xs index e = ap (slice_get xs) (eqb-true index (length xs) e) ∙ get_none xs

-- the values with one more token
value_more : (xs : List Taken) (x : Taken) (index : ℕ) (old new : Placed RowValue)
    → ((at : ℕ) → KeepsValue (slice_get xs at) (value_of old at))
    → AddsValue (length xs) x.token x.value old new
    → KeepsValue (slice_get (xs ++ x ∷ []) index) (value_of new index)
value_more xs x index old new kept adds =
    subst (λ o. KeepsValue o (value_of new index)) (sym (get_more xs x index))
    (by_place (nat_eq index (length xs)) refl adds)
  where
    by_place : (b : Bool) → nat_eq index (length xs) ≡ b → AddsValue (length xs) x.token x.value old new
        → KeepsValue (if b then Some x else slice_get xs index) (value_of new index)
    by_place true e (inl told) =
        let none : value_of old index ≡ None =
        subst (λ o. KeepsValue o (value_of old index)) (get_end xs index e) (kept index) in
        subst (KeepsValue (Some x)) (sym (ap (λ v. value_of v index) told.0 ∙ none)) told.1
    by_place true e (inr holds) =
        subst (KeepsValue (Some x))
        (sym (holds index ∙ ap (λ b. if b then Some x.value else value_of old index) e)) refl
    by_place false e (inl told) =
        subst (λ v. KeepsValue (slice_get xs index) (value_of v index)) (sym told.0) (kept index)
    by_place false e (inr holds) =
        subst (KeepsValue (slice_get xs index))
        (sym (holds index ∙ ap (λ b. if b then Some x.value else value_of old index) e)) (kept index)

-- the regular expressions with one more token
regex_more : (xs : List Taken) (x : Taken) (index : ℕ) (regex : Option RegexInfo) (old new : Placed RegexInfo)
    → x.regex ≡ regex → ((at : ℕ) → value_of old at ≡ regex_of (slice_get xs at))
    → AddsRegex (length xs) regex old new → value_of new index ≡ regex_of (slice_get (xs ++ x ∷ []) index)
regex_more xs x index regex old new is kept adds =
    by_place (nat_eq index (length xs)) refl regex is adds ∙ ap regex_of (sym (get_more xs x index))
  where
    by_place : (b : Bool) → nat_eq index (length xs) ≡ b → (regex : Option RegexInfo) → x.regex ≡ regex
        → AddsRegex (length xs) regex old new
        → value_of new index ≡ regex_of (if nat_eq index (length xs) then Some x else slice_get xs index)
    by_place true e None is adds =
        ap (λ v. value_of v index) adds ∙ kept index ∙ ap regex_of (get_end xs index e) ∙ sym is
        ∙ ap (λ b. regex_of (if b then Some x else slice_get xs index)) (sym e)
    by_place true e (Some info) is adds =
        adds index ∙ ap (λ b. if b then Some info else value_of old index) e ∙ sym is
        ∙ ap (λ b. regex_of (if b then Some x else slice_get xs index)) (sym e)
    by_place false e None is adds =
        ap (λ v. value_of v index) adds ∙ kept index
        ∙ ap (λ b. regex_of (if b then Some x else slice_get xs index)) (sym e)
    by_place false e (Some info) is adds =
        adds index ∙ ap (λ b. if b then Some info else value_of old index) e ∙ kept index
        ∙ ap (λ b. regex_of (if b then Some x else slice_get xs index)) (sym e)

-- one more token
taken_more : (old new : LiveLists) (xs : List Taken) (x : Taken) → HasTaken old xs → AddsTaken old x new
    → HasTaken new (xs ++ x ∷ [])
taken_more old new xs x h adds =
    let many : length old.tokens ≡ length xs = ap length h.tokens ∙ length-map xs (λ (x : Taken). x.token) in
    record {
      tokens =
          adds.tokens ∙ ap (λ ts. ts ++ x.token ∷ []) h.tokens
          ∙ sym (map-append (λ (x : Taken). x.token) xs (x ∷ []));
      values =
          λ index. value_more xs x index old.values new.values h.values
          (subst (λ n. AddsValue n x.token x.value old.values new.values) many adds.value);
      regexes =
          λ index. regex_more xs x index x.regex old.regexes new.regexes refl h.regexes
          (subst (λ n. AddsRegex n x.regex old.regexes new.regexes) many adds.regex);
    }

-- all tokens
taken_each : (old new : LiveLists) (before xs : List Taken) → HasTaken old before → TakesEach AddsTaken old xs new
    → HasTaken new (before ++ xs)
taken_each old new before [] h each =
    subst (HasTaken new) (sym (append-nil before)) (subst (λ l. HasTaken l before) (sym each) h)
taken_each old new before (x ∷ xs) h each =
    subst (HasTaken new) (append_assoc before (x ∷ []) xs)
    (taken_each each.0 new (before ++ x ∷ []) xs (taken_more old each.0 before x h each.1) each.2)

-- the lists with what was found
found_more : (old new : LiveLists) (found : Findings) (xs : List Taken) → HasTaken old xs → AddsFound old found new
    → HasTaken new xs
found_more old new found xs h adds = record {
  tokens = adds.tokens ∙ h.tokens;
  values = λ index. subst (λ v. KeepsValue (slice_get xs index) (value_of v index)) (sym adds.values) (h.values index);
  regexes = λ index. ap (λ v. value_of v index) adds.regexes ∙ h.regexes index;
}

are_lists : (commands : List Command) (report : Report) (old new : LiveLists) → HasTaken old []
    → TakesReport AddsTaken AddsFound commands report old new → AreListsOf commands report new
are_lists commands report old new nothing takes =
    let taken =
    found_more takes.behind new _ (live_taken commands report.rows)
    (taken_each old takes.behind [] (live_taken commands report.rows) nothing takes.takes_each) takes.after in
    record {
      taken = taken;
      tokens_are = taken.tokens ∙ takes.tokens_are;
      found_is = takes.after.found_is;
    }

-- The lists that took what is live of a source whose goals a rule chooses.
pub chosen_lists : (rule : Rule) (source : List ℕ) (t : SourceType) (old new : LiveLists) → HasTaken old []
    → TakesChosen AddsTaken AddsFound rule source t old new → ListsOfChosen rule source t new
chosen_lists rule source t old new nothing takes = record {
  commands = takes.commands;
  report = takes.report;
  report_is = takes.report_is;
  are_lists = are_lists takes.commands takes.report old new nothing takes.taken;
}

-- The same of a source and commands.
pub command_lists : (commands : List Command) (source : List ℕ) (t : SourceType) (old new : LiveLists)
    → HasTaken old [] → TakesCommands AddsTaken AddsFound commands source t old new
    → ListsOfCommands source t commands new
command_lists commands source t old new nothing takes = record {
  report = takes.report;
  report_is = takes.report_is;
  are_lists = are_lists commands takes.report old new nothing takes.taken;
}

token_at : (taken : List Taken) (index : ℕ) (x : Taken) (d : TokenParts) → slice_get taken index ≡ Some x
    → get_or (map (λ (y : Taken). y.token) taken) index d ≡ x.token
token_at [] zero x d e = absurd cc
token_at [] (suc index) x d e = absurd cc
token_at (y ∷ ys) zero x d e = let same : y ≡ x = cc in ap (λ (t : Taken). t.token) same
token_at (y ∷ ys) (suc index) x d e = token_at ys index x d e

-- kind and span of a token tell its value, where none is kept
pub told_at : (lists : LiveLists) (taken : List Taken) (x : Taken) (index : ℕ) (tokens : List TokenParts)
    (token : TokenParts) → HasTaken lists taken → slice_get taken index ≡ Some x
    → value_of lists.values index ≡ None → tokens ≡ lists.tokens → token ≡ get_or tokens index token
    → IsTold token x.value
told_at lists taken x index tokens token h at none are is =
    let kept : KeepsValue (Some x) None =
    subst (λ o. KeepsValue o None) at (subst (KeepsValue (slice_get taken index)) none (h.values index)) in
    let same : token ≡ x.token =
    is ∙ ap (λ ts. get_or ts index token) (are ∙ h.tokens) ∙ token_at taken index x token at in
    subst (λ t. IsTold t x.value) (sym same) kept

-- a stretch in order that kind and span tell
pub told_slice : (token : TokenParts) (span : Span) → is_valued token.kind ≡ true
    → span ≡ record { start = text_start token.kind token.start; end = text_end token.kind token.end }
    → span.start ≤ span.end → IsTold token (Slice span)
told_slice token span valued is ordered = record {
  value_is = ap Slice is ∙ sym (rw valued refl);
  ordered = λ _. omega (arith, ap (λ (s : Span). s.start) is, ap (λ (s : Span). s.end) is, ordered);
}
