use Rattle.lsp_server.specs.Diagnostics.{more_members}
use Rattle.lsp_server.proofs.told.put_more.Goals as goal

pub returns : goal.returns
unfolding more_members
returns c =
    cc (
      c.in_ok-put_related.ensures,
      c.in_ok-put_link.ensures,
      c.in_ok-put_text-2.ensures,
      c.in_ok-put_text.ensures,
      c.as_deref-3.ensures.value,
      c.as_deref-2.ensures.value,
      c.as_deref.ensures.value,
    )
