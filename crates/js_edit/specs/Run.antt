-- What a run of the program comes to.
use Rattle.std.specs.Prelude.{◌≡◌, ℕ, ◌⊎◌, List, [], ◌++◌, codes, Option, Some, None, Result, Ok, Err, Vec, String}
use Rattle.std.specs.declared.alloc.Global.{Global}
use Rattle.std.specs.declared.io.Error.{Error}
use Rattle.std.specs.IoError.{error_kind}
use Rattle.std.specs.Fmt.{decimal}
use Rattle.js_process.specs.Outside.{InputState, OutputState}
use Rattle.js_lex_tool.specs.ReportText.{report_text_of}
use Rattle.js_process.specs.Status.{number, status_without_words}
use Rattle.js_process.specs.TextRun.{RunsMaker}
use Rattle.js_relex.specs.Documents.{Cause, DocState, EditCause, IsDocumentOf, Spares, edited}
use Rattle.js_relex.specs.declared.fault.RelexFault.{RelexFault}
use Rattle.js_relex.specs.declared.fault.RelexFault.TheVariants.{BadEdit, Overlong, BadCommand, Memory}
use Rattle.js_edit.specs.Words.{EditWords, edit_words_of}

-- the line that tells why there is no document; a run that is out of memory writes none
unfoldable pub fault_line : RelexFault → List ℕ
fault_line BadEdit = codes "BadEdit\n"
fault_line Overlong = codes "Overlong\n"
fault_line (BadCommand index) = codes "BadCommand(" ++ decimal index ++ codes ")\n"
fault_line Memory = []

-- the line that tells at which row a document joined the old one
unfoldable pub joined_line : Option ℕ → List ℕ
joined_line None = codes "joined none\n"
joined_line (Some row) = codes "joined " ++ decimal row ++ codes "\n"

-- the text of a document: how many rows of the old one it has kept, at which row it joined that, and its report
unfoldable pub document_text : DocState → List ℕ
document_text d =
    codes "kept " ++ decimal d.kept ++ codes "\n" ++ joined_line d.joined ++ report_text_of d.text d.report

-- The document is that of the edited source, made of the document of the source; and nothing is against either.
pub record IsEdited (words : EditWords) (source : List ℕ) (new : DocState) : Type 0 where
  pub old : DocState
  pub old_is : IsDocumentOf source words.source_type words.commands old
  pub new_is : IsDocumentOf (edited source words.start words.end words.text) words.source_type words.new_commands new
  pub spares : Spares old words.start words.end words.text words.new_commands new.report.rows new.kept new.joined
  pub no_cause : (fault : RelexFault) → ¬ (Cause source words.commands fault)
  pub no_edit_cause : (fault : RelexFault)
      → ¬ (EditCause source words.start words.end words.text words.new_commands fault)

-- Why there is no document: the cause is of the source and its commands; or, where nothing is against these, of the
-- edit.
abbrev pub IsRefused : EditWords → List ℕ → RelexFault → Type 0
IsRefused words source fault =
    Cause source words.commands fault
    ⊎ (((f : RelexFault) → ¬ (Cause source words.commands f))
    × EditCause source words.start words.end words.text words.new_commands fault)

-- The text of a run of the words over a source: of the document, or of the fault.
abbrev pub IsEditText : EditWords → List ℕ → List ℕ → Type 0
IsEditText words source text =
    ((new : DocState) × IsEdited words source new × (text ≡ document_text new))
    ⊎ ((fault : RelexFault) × IsRefused words source fault × (text ≡ fault_line fault))

-- A run of the words has this status; or there are none, and the status tells why.
abbrev pub RunsWords : Result (Vec (String Global) Global) Error → InputState → InputState → OutputState → OutputState
    → ℕ → Type 0
RunsWords (Ok words) input input_new output output_new n =
    RunsMaker IsEditText (edit_words_of words.items) input input_new output output_new n
RunsWords (Err error) input input_new output output_new n =
    (n ≡ number (status_without_words (error_kind error))) × (input_new ≡ input) × (output_new ≡ output)
