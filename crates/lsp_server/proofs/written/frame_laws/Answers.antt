use Rattle.lsp_server.proofs.WrittenLemmas.{cuts_agree, frames_read}
use Rattle.lsp_server.proofs.Endings.{refused_for_good, can_end}
use Rattle.lsp_server.proofs.written.frame_laws.Goals as goal

pub returns : goal.returns
returns c = record { cuts = cuts_agree; frames = frames_read; refused = refused_for_good; can_end = can_end }
