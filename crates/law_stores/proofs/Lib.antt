mod HeldFiles
