use Rattle.mb_reading.proofs.disk_file.DiskFileDisk.read_at.Goals as goal

pub returns-in-InMemory-clause-read : goal.returns-in-InMemory-clause-read
returns-in-InMemory-clause-read g c = rw c.in-InMemory.is c.read_at-in-InMemory.ensures.read
