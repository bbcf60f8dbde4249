-- The next line of an input is at hand, says a call, and is taken and played.
use Rattle.std.proofs.Common.{◌≡◌, ℕ, ◌+◌, ◌++◌, List, length, Option, Some, None, Ok, IfSome, Bool, true, refl, sym, subst}
use Rattle.clsm_store.specs.declared.phase.Phase.{Phase}
use Rattle.clsm_store.specs.declared.play.call.Call.{Call}
use Rattle.std.proofs.KnownBytes.{Appends-trans}
use Rattle.std.specs.Io.{StartsWith}
use Rattle.std.specs.Io.BufRead.{DropsConsumable}
use Rattle.clsm_text.proofs.AtHand.{some_at_hand, taken_at_hand}
use Rattle.clsm_text.proofs.Inputs.{LeadsTo, Tells}
use Rattle.clsm_text.specs.Input.{BeginsWithLine}
use Rattle.clsm_text.specs.Line.{IsComment, IsText, words_of}
use Rattle.clsm_text.specs.Taken.{TakesLine}
use Rattle.clsm_script.specs.Command.{IsCommand, Says}
use Rattle.clsm_script.specs.Line.{Reads, TakesCommand}
use Rattle.clsm_script.specs.Lines.{Outputs, Stage, outputs_of}
use Rattle.clsm_script.specs.Play.{PrintsCall}
use Rattle.clsm_script.specs.declared.command.Command.{Command}
use Rattle.clsm_script.specs.declared.command.Command.TheVariants as commands
use Rattle.clsm_script.specs.declared.session.Session.{Session}
use Rattle.clsm_script.proofs.Chains.{PrintTo, PrintsSaid, prints_call, prints_on}
use Rattle.clsm_script.proofs.Readings.{leads_past}

-- it leads on to the next line
pub leads_taken : (old now new : Option (List ℕ)) (command : Command) (count after : ℕ) →
    LeadsTo IsCommand old now count → IfSome now (λ bytes. TakesCommand bytes new command) →
    after ≡ count + 1 → LeadsTo IsCommand old new after
leads_taken None now new command count after leads taken same = tt
leads_taken (Some bytes) None new command count after leads taken same = absurd leads
leads_taken (Some bytes) (Some now) new command count after leads taken same =
    subst (LeadsTo IsCommand (Some bytes) new) (sym same)
    (leads_past (Some bytes) (Some now) new taken.line taken.line (Some command) true count leads
    ((λ _. taken.some), λ _. refl) refl taken.takes refl (taken.is_said, taken.text, taken.says))

-- and its call is played, and its answer printed
pub prints_taken : (old now new : Option (List ℕ)) (call : Call) (count after : ℕ) (start : Stage)
    (a b : Session) (p : Phase) (held given given_now : Option (List ℕ)) → LeadsTo IsCommand old now count →
    IfSome now (λ bytes. TakesCommand bytes new (commands.Call call)) →
    PrintTo old count start a p (outputs_of held given) → PrintsCall call a b given given_now →
    after ≡ count + 1 → PrintTo old after start b p (outputs_of held given_now)
prints_taken None now new call count after start a b p held given given_now leads taken to prints same =
    let more = prints_call (Some (commands.Call call)) call a b p given given_now prints refl in
    record {
      printed = to.printed ++ more.more;
      plays = tt;
      appended = Appends-trans held given given_now to.printed more.more to.appended more.appended;
    }
prints_taken (Some bytes) None new call count after start a b p held given given_now leads taken to prints same = absurd leads
prints_taken (Some bytes) (Some now) new call count after start a b p held given given_now leads taken to prints same =
    prints_on (Some bytes) (Some now) new taken.line taken.line (Some (commands.Call call)) true count
    start a b p p held given given_now leads ((λ _. taken.some), λ _. refl) refl taken.takes refl
    (taken.is_said, taken.text, taken.says) to
    (prints_call (Some (commands.Call call)) call a b p given given_now prints refl) after same

-- a line that is at hand is taken, and says a command
pub takes_command : (old new : Option (List ℕ)) (shown buffer line : List ℕ) (command : Command) →
    shown ≡ buffer → IfSome old (λ bytes. StartsWith bytes buffer) → BeginsWithLine shown line →
    DropsConsumable old new (Some (length buffer)) (length line + 1) → ¬ IsComment (words_of line) → IsText line →
    Says command (words_of line) → IfSome old (λ bytes. TakesCommand bytes new command)
takes_command None new shown buffer line command is starts begins drops is_said text says = tt
takes_command (Some bytes) new shown buffer line command is starts begins drops is_said text says =
    let first : BeginsWithLine buffer line = subst (λ b. BeginsWithLine b line) is begins in
    record {
      line = line;
      some = some_at_hand bytes buffer line starts first;
      takes = taken_at_hand (Some bytes) new buffer line starts first drops;
      is_said = is_said;
      text = text;
      says = says;
    }

-- one line more was read: it leads on to the next one, and what it prints stands behind what was
-- printed
pub record LeadsOn (old new : Option (List ℕ)) (count : ℕ) (start : Stage) (session : Session) (phase : Phase) (outputs : Outputs) : Type 0 where
  pub leads : LeadsTo IsCommand old new count
  pub prints : PrintTo old count start session phase outputs

pub line_on : (old now new : Option (List ℕ)) (line text : List ℕ) (said : Option Command) (found : Bool) (count : ℕ) (start : Stage) (a b : Session)
    (p q : Phase) (held given given_now : Option (List ℕ)) → LeadsTo IsCommand old now count → Tells now found → found ≡ true
    → IfSome now (λ bytes. TakesLine bytes line new) → text ≡ line → Reads text (Ok said) → PrintTo old count start a p (outputs_of held given)
    → PrintsSaid said a b p q given given_now → (after : ℕ) → after ≡ count + 1 → LeadsOn old new after start b q (outputs_of held given_now)
line_on old now new line text said found count start a b p q held given given_now leads tells some takes is reads to prints after same = record {
  leads = subst (LeadsTo IsCommand old new) (sym same) (leads_past old now new line text said found count leads tells some takes is reads);
  prints = prints_on old now new line text said found count start a b p q held given given_now leads tells some takes is reads to prints after same;
}

-- where nothing is taken, the lines that were read lead to where they led
pub leads_kept : {X : Type 0} (remaining : X → Option (List ℕ)) (old : Option (List ℕ)) (before now : X)
    (count : ℕ) → now ≡ before → LeadsTo IsCommand old (remaining before) count →
    LeadsTo IsCommand old (remaining now) count
leads_kept remaining old before now count same leads =
    subst (λ x. LeadsTo IsCommand old (remaining x) count) (sym same) leads
