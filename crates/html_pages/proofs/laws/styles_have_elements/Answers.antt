use Rattle.html_pages.proofs.StyleLemmas.{have_elements}
use Rattle.html_pages.proofs.laws.styles_have_elements.Goals as goal

pub returns : goal.returns
returns c = have_elements
