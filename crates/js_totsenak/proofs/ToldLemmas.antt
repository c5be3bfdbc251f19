-- What a command tells of a source is one text.
use Rattle.std.proofs.Common.{◌≡◌, ◌==◌, ℕ, Bool, false, not, List, length, map, ◌∙◌, ap, sym, subst, flat_map}
use Rattle.js_auto.specs.DueLemmas.{each_is_due as each_is_due_in_javascript}
use Rattle.js_choose.proofs.ChosenLemmas.{one_list}
use Rattle.js_choose.specs.Rules.{IsRule, ReportBy}
use Rattle.js_grammar.specs.Outcome.{Findings}
use Rattle.js_jsx.specs.DueLemmas.{each_is_due as each_is_due_in_jsx}
use Rattle.js_lists.specs.LiveLists.{live_found, live_taken}
use Rattle.js_lists.specs.Taken.{Taken}
use Rattle.js_session.specs.declared.command.Command.{Command as Step}
use Rattle.js_session.specs.declared.report.Report.{Report}
use Rattle.js_text.specs.declared.source_type.SourceType.{SourceType}
use Rattle.js_totsenak.proofs.OrderLemmas.{one_placing}
use Rattle.js_totsenak.specs.Check.{check_text}
use Rattle.js_totsenak.specs.Checked.{IsChecked}
use Rattle.js_totsenak.specs.ItemJson.{item_json}
use Rattle.js_totsenak.specs.Items.{items_of}
use Rattle.js_totsenak.specs.ItemsText.{HasItems, IsItemsText}
use Rattle.js_totsenak.specs.Syntaxes.{rule_of}
use Rattle.js_totsenak.specs.Told.{IsTold}
use Rattle.js_totsenak.specs.Tokens.{HasTokens, tokens_text}
use Rattle.js_totsenak.specs.Values.{HasValues, values_text}
use Rattle.js_totsenak.specs.declared.command.Command.{Command}
use Rattle.js_totsenak.specs.declared.command.Command.TheVariants.{Check, Tokens, Values}
use Rattle.js_totsenak.specs.declared.command.Format.TheVariants.{Lines, Json}
use Rattle.js_totsenak.specs.declared.syntax.Syntax.{Syntax}
use Rattle.js_totsenak.specs.declared.syntax.Syntax.TheVariants.{JavaScript, Jsx}

each_is_due : (syntax : Syntax) → IsRule (rule_of syntax)
each_is_due JavaScript = each_is_due_in_javascript
each_is_due Jsx = each_is_due_in_jsx

same_report : (syntax : Syntax) (source : List ℕ) (t : SourceType) (commands others : List Step) (a b : Report)
    → ReportBy (rule_of syntax) source t false commands a → ReportBy (rule_of syntax) source t false others b
    → (commands ≡ others) × (a ≡ b)
same_report syntax source t commands others a b =
    one_list (rule_of syntax) (each_is_due syntax) source t false commands others a b

same_check : (syntax : Syntax) (name source : List ℕ) (t : SourceType) (first second : List ℕ) (p q : Bool)
    → IsChecked (rule_of syntax) name source t first p → IsChecked (rule_of syntax) name source t second q
    → (first ≡ second) × (p ≡ q)
same_check syntax name source t first second p q a b =
    let both =
    same_report syntax source t a.is_found.commands b.is_found.commands a.is_found.report b.is_found.report
    a.is_found.report_is b.is_found.report_is in
    let found : a.found ≡ b.found = a.is_found.found_is ∙ ap live_found both.1 ∙ sym b.is_found.found_is in (
      a.tells.text_is ∙ ap (check_text name source) found ∙ sym b.tells.text_is,
      a.tells.faulty ∙ ap (λ (f : Findings). not (length f.diagnostics == 0)) found ∙ sym b.tells.faulty,
    )

same_tokens : (syntax : Syntax) (source : List ℕ) (t : SourceType) (first second : List ℕ)
    → HasTokens (rule_of syntax) source t first → HasTokens (rule_of syntax) source t second → first ≡ second
same_tokens syntax source t first second a b =
    let both = same_report syntax source t a.commands b.commands a.report b.report a.report_is b.report_is in
    a.text_is ∙ ap (λ (r : Report). tokens_text source r.tokens) both.1 ∙ sym b.text_is

same_values : (syntax : Syntax) (source : List ℕ) (t : SourceType) (first second : List ℕ)
    → HasValues (rule_of syntax) source t first → HasValues (rule_of syntax) source t second → first ≡ second
same_values syntax source t first second a b =
    let both = same_report syntax source t a.commands b.commands a.report b.report a.report_is b.report_is in
    a.text_is ∙ ap (λ (cs : List Step). values_text source (live_taken cs a.report.rows)) both.0
    ∙ ap (λ (r : Report). values_text source (live_taken b.commands r.rows)) both.1 ∙ sym b.text_is

same_items_text : (source : List ℕ) (found : Findings) (taken : List Taken) (first second : List ℕ)
    → IsItemsText source found taken first → IsItemsText source found taken second → first ≡ second
same_items_text source found taken first second a b =
    let placed : a.placed ≡ b.placed =
    one_placing (items_of found (map (λ (x : Taken). x.token) taken)) a.placed b.placed a.are_placed b.are_placed in
    a.text_is ∙ ap (flat_map (item_json source taken)) placed ∙ sym b.text_is

same_items : (syntax : Syntax) (source : List ℕ) (t : SourceType) (first second : List ℕ)
    → HasItems (rule_of syntax) source t first → HasItems (rule_of syntax) source t second → first ≡ second
same_items syntax source t first second a b =
    let both = same_report syntax source t a.commands b.commands a.report b.report a.report_is b.report_is in
    let found : live_found a.report ≡ live_found b.report = ap live_found both.1 in
    let taken : live_taken a.commands a.report.rows ≡ live_taken b.commands b.report.rows =
    ap (λ (cs : List Step). live_taken cs a.report.rows) both.0
    ∙ ap (λ (r : Report). live_taken b.commands r.rows) both.1 in
    let moved : IsItemsText source (live_found b.report) (live_taken b.commands b.report.rows) first =
    subst (λ xs. IsItemsText source (live_found b.report) xs first) taken
    (subst (λ f. IsItemsText source f (live_taken a.commands a.report.rows) first) found a.text_is) in
    same_items_text source (live_found b.report) (live_taken b.commands b.report.rows) first second moved b.text_is

pub one_text : (syntax : Syntax) (command : Command) (name source : List ℕ) (t : SourceType) (first second : List ℕ)
    (p q : Bool) → IsTold (rule_of syntax) command name source t first p
    → IsTold (rule_of syntax) command name source t second q → (first ≡ second) × (p ≡ q)
one_text syntax Check name source t first second p q a b = same_check syntax name source t first second p q a b
one_text syntax (Tokens Lines) name source t first second p q a b =
    (same_tokens syntax source t first second a.0 b.0, a.1 ∙ sym b.1)
one_text syntax (Tokens Json) name source t first second p q a b =
    (same_items syntax source t first second a.0 b.0, a.1 ∙ sym b.1)
one_text syntax Values name source t first second p q a b =
    (same_values syntax source t first second a.0 b.0, a.1 ∙ sym b.1)
