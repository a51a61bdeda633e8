-- Reports of which none is refused stand in their files.
use Rattle.std.proofs.Common.{map}
use Rattle.render_files.specs.Given.{given_report}
use Rattle.render_files.proofs.Standing.{all_stand}
use Rattle.render_files.proofs.render.files_json.Goals as goal

pub write_all_json-requires-clause-stand : goal.write_all_json-requires-clause-stand
write_all_json-requires-clause-stand c = all_stand c.args.files.now (map given_report c.args.reports.now) c.in_ok-spans.ensures.cause
