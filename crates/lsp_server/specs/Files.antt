-- What contracts see of a file that is open.
use Rattle.lsp_server.specs.declared.told.OpenFile.{OpenFile}
use Rattle.lsp_server.specs.Seen.{Seen}

abbrev pub seen : OpenFile → Seen
seen file = record { uri = file.uri.now; version = file.version; encoding = file.encoding; related = file.related; text = file.places.now }
