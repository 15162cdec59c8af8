use Rattle.std.proofs.Common.{sym, ap, ◌∙◌}
use Rattle.std.specs.Prelude.{codes}
use Rattle.ap_command.specs.Messages.{message_of, fault_text, file_text, name_at}
use Rattle.ap_command.specs.Words.{texts}
use Rattle.ap_command.proofs.Told.{says-as}
use Rattle.ap_command.proofs.messages.message.Goals as goal

pub returns-in-FileFault : goal.returns-in-FileFault
unfolding message_of
returns-in-FileFault g c =
    says-as _ _ (ap (λ n. file_text n (codes ": file fault\n")) c.name.ensures
    ∙ sym (ap (λ s. message_of s (texts c.args.words.now)) c.in-FileFault.is))
    c.say_file.ensures

pub returns-in-ReadFault : goal.returns-in-ReadFault
unfolding message_of
returns-in-ReadFault g c =
    says-as _ _ (sym (ap (λ s. message_of s (texts c.args.words.now)) c.in-ReadFault.is))
    c.say-in-ReadFault.ensures

pub returns-in-WriteFault : goal.returns-in-WriteFault
unfolding message_of
returns-in-WriteFault g c =
    says-as _ _ (sym (ap (λ s. message_of s (texts c.args.words.now)) c.in-WriteFault.is))
    c.say-in-WriteFault.ensures

pub returns-in-BadDictionary : goal.returns-in-BadDictionary
unfolding message_of
returns-in-BadDictionary g c =
    says-as _ _ (ap (λ n. fault_text n c.in-BadDictionary.line (codes ": dictionary fault ")
    c.in-BadDictionary.fault c.dictionary_fault_name.result.now) c.name-in-BadDictionary.ensures
    ∙ ap (λ n. fault_text (name_at (texts c.args.words.now) c.in-BadDictionary.file)
    c.in-BadDictionary.line (codes ": dictionary fault ") c.in-BadDictionary.fault n)
    c.dictionary_fault_name.ensures
    ∙ sym (ap (λ s. message_of s (texts c.args.words.now)) c.in-BadDictionary.is))
    c.say_fault.ensures

pub returns-in-BadRules : goal.returns-in-BadRules
unfolding message_of
returns-in-BadRules g c =
    says-as _ _ (ap (λ n. fault_text n c.in-BadRules.line (codes ": rule fault ")
    c.in-BadRules.fault c.rule_fault_name.result.now) c.name-in-BadRules.ensures
    ∙ ap (λ n. fault_text (name_at (texts c.args.words.now) c.in-BadRules.file)
    c.in-BadRules.line (codes ": rule fault ") c.in-BadRules.fault n) c.rule_fault_name.ensures
    ∙ sym (ap (λ s. message_of s (texts c.args.words.now)) c.in-BadRules.is))
    c.say_fault-in-BadRules.ensures

pub returns-in-BadCompiled : goal.returns-in-BadCompiled
unfolding message_of
returns-in-BadCompiled g c =
    says-as _ _ (ap (λ n. fault_text n c.in-BadCompiled.line (codes ": compiled fault ")
    c.in-BadCompiled.fault c.compiled_fault_name.result.now) c.name-in-BadCompiled.ensures
    ∙ ap (λ n. fault_text (name_at (texts c.args.words.now) c.in-BadCompiled.file)
    c.in-BadCompiled.line (codes ": compiled fault ") c.in-BadCompiled.fault n)
    c.compiled_fault_name.ensures
    ∙ sym (ap (λ s. message_of s (texts c.args.words.now)) c.in-BadCompiled.is))
    c.say_fault-in-BadCompiled.ensures

pub returns-in-Memory : goal.returns-in-Memory
unfolding message_of
returns-in-Memory g c = says-as _ _
    (sym (ap (λ s. message_of s (texts c.args.words.now)) c.in-Memory.is)) c.say-in-Memory.ensures
