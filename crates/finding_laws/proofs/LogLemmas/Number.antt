-- Numbers and words that are written are read as themselves.
use Rattle.std.proofs.Common.{◌≡◌, true, Some, refl}
use Rattle.oxc_protocol.specs.declared.protocol.Severity.{Severity}
use Rattle.oxc_protocol.specs.declared.protocol.Severity.TheVariants.{Advice, Warning, Error}
use Rattle.sarif_log.specs.declared.form.Words.TheVariants as words
use Rattle.sarif_log.specs.Faults.{is_word, words_of}
use Rattle.sarif_log.specs.Log.{level_named}
use Rattle.sarif_writing.specs.Written.{level_text}
use Rattle.finding_laws.specs.Logs.Meant.{level_meant}

pub level_fits : (severity : Severity) → is_word words.Level (level_text severity) ≡ true
unfolding is_word words_of
level_fits Advice = refl
level_fits Warning = refl
level_fits Error = refl

pub level_back : (severity : Severity) → level_named (level_text severity) ≡ Some (level_meant severity)
level_back Advice = refl
level_back Warning = refl
level_back Error = refl
