use Rattle.std.proofs.Common.{◌≡◌, drop}
use Rattle.spec_io.specs.Documents.{document_of}
use Rattle.mrs_io.specs.MemShelf.{documents}
use Rattle.mrs_io.proofs.mem_shelf.document.Given as goal

abbrev pub invariant-loop-doc : goal.invariant-loop-doc
invariant-loop-doc l = document_of l.name (documents (drop l.doc-index l.docs)) ≡ document_of l.name (documents l.docs)
