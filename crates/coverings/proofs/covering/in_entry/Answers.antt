-- `covering::in_entry` meets its contract. Assumes nothing.
use Rattle.coverings.proofs.covering.in_entry.Goals as goal

pub returns-in-File : goal.returns-in-File
returns-in-File c = record {
  equal = rw c.in-File.is c.in_file.ensures.equal;
  leaves = c.in_file.ensures.leaves;
}

pub returns-in-Directory : goal.returns-in-Directory
returns-in-Directory c = record {
  equal = rw c.in-Directory.is (rw c.no_file.ensures at c.after_check.ensures.equal);
  leaves = c.after_check.ensures.leaves;
}

pub returns-in-DirectoryThread : goal.returns-in-DirectoryThread
returns-in-DirectoryThread c = record {
  equal = rw c.in-DirectoryThread.is (rw c.no_file-in-DirectoryThread.ensures at c.after_check-in-DirectoryThread.ensures.equal);
  leaves = c.after_check-in-DirectoryThread.ensures.leaves;
}

pub returns-in-FileThread : goal.returns-in-FileThread
returns-in-FileThread c = record {
  equal = rw c.in-FileThread.is (rw c.no_file-in-FileThread.ensures at c.after_check-in-FileThread.ensures.equal);
  leaves = c.after_check-in-FileThread.ensures.leaves;
}
