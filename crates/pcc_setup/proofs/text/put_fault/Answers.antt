use Rattle.pcc_setup.proofs.text.put_fault.Goals as goal

pub returns-in-Signature : goal.returns-in-Signature
returns-in-Signature c = rw c.in-Signature.is c.put_pieces.ensures

pub returns-in-Revision : goal.returns-in-Revision
returns-in-Revision c = rw c.in-Revision.is c.put_numbered-in-Revision.ensures

pub returns-in-Checksum : goal.returns-in-Checksum
returns-in-Checksum c = rw c.in-Checksum.is c.put_numbered-in-Checksum.ensures
